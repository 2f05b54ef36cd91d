-- The source that belongs to a number.
use Rattle.std.specs.Prelude.{ℕ, zero, suc, ◌+◌, ◌%◌, List, [], ◌++◌, if◌then◌else◌, nat_eq, codes}
use Rattle.std.specs.Fmt.{decimal}
use Rattle.pc_word.specs.Line.{line}

-- the factor of whose multiples the first array is made, 1 to 97
abbrev pub array_factor : ℕ → ℕ
array_factor number = number % 97 + 1

-- the bits that are flipped in the elements of the second array, 0 to 60
abbrev pub mask_of : ℕ → ℕ
mask_of number = number % 61

-- the loop that fills both arrays
abbrev pub fill_line : ℕ → List ℕ
fill_line number =
    line (codes "for(i=0;i<64;i++){a[i]=i*" ++ (decimal (array_factor number) ++ (codes ";b[i]=i^" ++ (decimal (mask_of number) ++ codes ";}"))))

-- the beginning: declarations, and that loop
abbrev pub head_text : ℕ → List ℕ
head_text number =
    line (codes "int main(void){") ++ (line (codes "int i;int s;int a[64];int b[64];") ++ fill_line number)

-- a block that sums the products of elements, and prints the sum
abbrev pub sum_line : List ℕ
sum_line = line (codes "s=0;for(i=0;i<64;i++)s=s+a[i]*b[i];print(s);")

-- a block that rewrites the first array from each next element, and prints the element at a place
abbrev pub difference_line : ℕ → List ℕ
difference_line place = line (codes "for(i=0;i<63;i++)a[i]=a[i+1]-b[i];print(a[" ++ (decimal place ++ codes "]);"))

-- a block that rewrites every second element of the second array, and prints the element at a place
abbrev pub gather_line : ℕ → List ℕ
gather_line place = line (codes "for(i=0;i<32;i++)b[2*i]=b[2*i+1]+a[i];print(b[" ++ (decimal place ++ codes "]);"))

-- the block of a kind, 0 to 2
abbrev pub block_line : ℕ → ℕ → List ℕ
block_line kind place =
    if nat_eq kind 0 then sum_line
    else if nat_eq kind 1 then difference_line place
    else gather_line place

-- a block of the source, counted from 0: its kind goes round, and so does the place that it prints
abbrev pub block_text : ℕ → ℕ → List ℕ
block_text number block = block_line ((number + block) % 3) (block % 64)

-- the first blocks, so many of them
abbrev pub blocks_text : ℕ → ℕ → List ℕ
blocks_text number zero = []
blocks_text number (suc count) = blocks_text number count ++ block_text number count

-- how many blocks there are
abbrev pub block_count : ℕ → ℕ
block_count number = number % 40 + 1

-- the source of a number: the beginning, its blocks, and the brace that ends it
abbrev pub sample_text : ℕ → List ℕ
sample_text number = head_text number ++ (blocks_text number (block_count number) ++ line (codes "}"))
