use Rattle.std.proofs.Common.{◌≡◌, ◌∙◌, ◌++◌, List, ℕ, ap, append_assoc, codes, string_bytes}
use Rattle.std.specs.Prelude.{Result, Ok, Err, is_ok, OnOk, if◌then◌else◌}
use Rattle.pc_view.proofs.LeadingRows.{ok_map}
use Rattle.pc_stat.proofs.lines.push_fault.Goals as goal

-- what stands where a call succeeds
where_ok : {T E : Type 0} (r : Result T E) (a b c : List ℕ) → a ≡ (if is_ok r then b else c) → OnOk r (a ≡ b)
where_ok (Ok x) a b c e = e
where_ok (Err x) a b c e = tt

pub returns : goal.returns
returns c =
    let old = string_bytes c.args.text.now in
    let between = string_bytes c.push_str.new.self in
    let words = c.machine_fault_words.result.now in
    ok_map c.push_str-2.result (λ last.
    last ∙ ap (λ (text : List ℕ). text ++ words) c.in_ok-push_str.ensures.bytes ∙ append_assoc old (codes "machine fault: ") words
    ∙ ap (λ (text : List ℕ). old ++ (codes "machine fault: " ++ text)) c.machine_fault_words.ensures)
    (where_ok c.push_str-2.result (string_bytes c.push_str-2.new.self) (between ++ words) between c.push_str-2.ensures.bytes)
