-- How long samples are.
use Rattle.std.proofs.Common.{ℕ, zero, suc, ◌+◌, ◌*◌, ◌%◌, ◌<◌, ◌≤◌, Bool, true, false, if◌then◌else◌, nat_eq, List, [], ◌∷◌, ◌++◌, length, codes, arith, lit<, lit≤, length-append}
use Rattle.std.specs.Fmt.{decimal}
use Rattle.std.proofs.lemmas.Fmt.{length-decimal-le}
use Rattle.pc_sample.specs.SampleText.{array_factor, mask_of, fill_line, head_text, sum_line, difference_line, gather_line, block_line, block_text, blocks_text, block_count, sample_text}
use Rattle.pc_word.specs.Line.{line}

-- a number below 100 has at most two digits
two_digits : (n : ℕ) → n < 100 → length (decimal n) ≤ 2
two_digits n small = length-decimal-le 2 n (lit< tt) small (omega arith)

-- texts after one another, of which each is short
both_short : (xs ys : List ℕ) (m n : ℕ) → length xs ≤ m → length ys ≤ n → length (xs ++ ys) ≤ m + n
both_short xs ys m n first second = let e = length-append xs ys in omega (arith, e)

-- a line of a text that is short
line_short : (text : List ℕ) (n : ℕ) → length text ≤ n → length (line text) ≤ n + 1
line_short text n short = both_short text (10 ∷ []) n 1 short (lit≤ tt)

-- one of two texts that are short
either_short : (b : Bool) (xs ys : List ℕ) (n : ℕ) → length xs ≤ n → length ys ≤ n → length (if b then xs else ys) ≤ n
either_short true xs ys n first second = first
either_short false xs ys n first second = second

-- a text with a number below 100 in it
with_number : (before : List ℕ) (n : ℕ) (after : List ℕ) (m k : ℕ) → n < 100 → length before ≤ m → length after ≤ k → length (before ++ (decimal n ++ after)) ≤ m + (2 + k)
with_number before n after m k small first second =
    both_short before (decimal n ++ after) m (2 + k) first (both_short (decimal n) after 2 k (two_digits n small) second)

-- the line of a block
difference_short : (place : ℕ) → place < 100 → length (difference_line place) ≤ 60
difference_short place small =
    line_short (codes "for(i=0;i<63;i++)a[i]=a[i+1]-b[i];print(a[" ++ (decimal place ++ codes "]);")) 59
    (with_number (codes "for(i=0;i<63;i++)a[i]=a[i+1]-b[i];print(a[") place (codes "]);") 50 7 small (lit≤ tt) (lit≤ tt))

gather_short : (place : ℕ) → place < 100 → length (gather_line place) ≤ 60
gather_short place small =
    line_short (codes "for(i=0;i<32;i++)b[2*i]=b[2*i+1]+a[i];print(b[" ++ (decimal place ++ codes "]);")) 59
    (with_number (codes "for(i=0;i<32;i++)b[2*i]=b[2*i+1]+a[i];print(b[") place (codes "]);") 50 7 small (lit≤ tt) (lit≤ tt))

block_line_short : (kind place : ℕ) → place < 100 → length (block_line kind place) ≤ 60
block_line_short kind place small =
    either_short (nat_eq kind 0) sum_line (if nat_eq kind 1 then difference_line place else gather_line place) 60 (lit≤ tt)
    (either_short (nat_eq kind 1) (difference_line place) (gather_line place) 60 (difference_short place small) (gather_short place small))

-- the blocks
blocks_short : (number count : ℕ) → length (blocks_text number count) ≤ 60 * count
blocks_short number zero = lit≤ tt
blocks_short number (suc count) =
    let rest : length (blocks_text number count) ≤ 60 * count = blocks_short number count in
    let one : length (block_text number count) ≤ 60 = block_line_short ((number + count) % 3) (count % 64) (omega arith) in
    let e = both_short (blocks_text number count) (block_text number count) (60 * count) 60 rest one in
    omega (arith, e)

-- the beginning
fill_short : (number : ℕ) → length (fill_line number) ≤ 46
fill_short number =
    line_short (codes "for(i=0;i<64;i++){a[i]=i*" ++ (decimal (array_factor number) ++ (codes ";b[i]=i^" ++ (decimal (mask_of number) ++ codes ";}")))) 45
    (with_number (codes "for(i=0;i<64;i++){a[i]=i*") (array_factor number) (codes ";b[i]=i^" ++ (decimal (mask_of number) ++ codes ";}")) 28 15 (omega arith) (lit≤ tt)
    (with_number (codes ";b[i]=i^") (mask_of number) (codes ";}") 9 4 (omega arith) (lit≤ tt) (lit≤ tt)))

head_short : (number : ℕ) → length (head_text number) ≤ 98
head_short number =
    both_short (line (codes "int main(void){")) (line (codes "int i;int s;int a[64];int b[64];") ++ fill_line number) 16 82 (lit≤ tt)
    (both_short (line (codes "int i;int s;int a[64];int b[64];")) (fill_line number) 36 46 (lit≤ tt) (fill_short number))

-- the whole
pub sample_short : (number : ℕ) → length (sample_text number) ≤ 2500
sample_short number =
    let blocks : length (blocks_text number (block_count number)) ≤ 60 * block_count number = blocks_short number (block_count number) in
    let few : block_count number ≤ 40 = omega arith in
    let most : length (blocks_text number (block_count number)) ≤ 2400 = omega arith in
    both_short (head_text number) _ 98 2402 (head_short number)
    (both_short (blocks_text number (block_count number)) (line (codes "}")) 2400 2 most (lit≤ tt))
