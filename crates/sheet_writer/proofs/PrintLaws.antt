-- The text of a sheet by its parts: the heading, three times three lines, and the last.
use Prim.Native.Nat.{ℕ}
use mathlib.Core.Path.{◌≡◌, sym, ap, subst, ◌∙◌}
use mathlib.Core.List.{List, ◌++◌, append_assoc, append-nil, flat_map}
use Rattle.text.specs.Decimal.{line}
use Rattle.text.specs.Printing.{Prints}
use Rattle.sheet.specs.Text.{heading, Records, text}

abbrev pub three : List ℕ → List ℕ → List ℕ → List ℕ
three a b c = line a ++ (line b ++ line c)

three_before : (a b c rest : List ℕ) → three a b c ++ rest ≡ line a ++ (line b ++ (line c ++ rest))
three_before a b c rest =
    append_assoc (line a) (line b ++ line c) rest ∙ ap (λ (k : List ℕ). line a ++ k) (append_assoc (line b) (line c) rest)

abbrev pub parts : Records → List ℕ
parts r =
    heading ++ (three r.names r.bounds r.types
    ++ (three r.self r.steps r.returns ++ (three r.structs r.params r.output ++ line r.force)))

text_parts : (r : Records) → parts r ≡ text r
unfolding text flat_map
text_parts r =
    ap (λ (k : List ℕ). heading ++ k)
    (three_before r.names r.bounds r.types _
    ∙ ap (λ (k : List ℕ). line r.names ++ (line r.bounds ++ (line r.types ++ k)))
    (three_before r.self r.steps r.returns _
    ∙ ap (λ (k : List ℕ). line r.self ++ (line r.steps ++ (line r.returns ++ k)))
    (three_before r.structs r.params r.output _
    ∙ ap (λ (k : List ℕ). line r.structs ++ (line r.params ++ (line r.output ++ k)))
    (sym (append-nil (line r.force))))))

pub prints_text : (r : Records) {at n : ℕ} {out out₁ : List ℕ} → Prints (parts r) at out n out₁ → Prints (text r) at out n out₁
prints_text r {at} {n} {out} {out₁} p = subst (λ (t : List ℕ). Prints t at out n out₁) (text_parts r) p
