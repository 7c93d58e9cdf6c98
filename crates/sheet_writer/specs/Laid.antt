-- Writing records that stand one after another in a slice of words, by where each ends.
use Rattle.std.specs.Prelude.{ℕ, Bool, not, ◌&&◌, List, [], ◌∷◌, ◌++◌, eqb, leb, length}
use Rattle.answers.specs.declared.Refusal.TheVariants.{Malformed}
use Rattle.answers.specs.Refusals.{Check, check, Outcome, unless}
use Rattle.answers.specs.Lent.{room_check}
use Rattle.sheet.specs.Text.{record_count, text}
use Rattle.sheet.specs.Answer.{records_at}
use Rattle.sheet_writer.specs.Writing.{write_checks}

-- ends ascend from a place on, to so many words at most
unfoldable pub ascend_to : ℕ → ℕ → List ℕ → Bool
ascend_to count from [] = leb from count
ascend_to count from (to ∷ ends) = leb from to && ascend_to count to ends

-- whether these are the ends of ten records in so many words
abbrev pub are_ends : ℕ → List ℕ → Bool
are_ends count ends = eqb (length ends) record_count && ascend_to count 0 ends

-- 1 where they are not: there are no ten records then at which anything could be looked. Else as the ten are refused
abbrev pub laid_checks : List ℕ → List ℕ → List Check
laid_checks words ends = check (not (are_ends (length words) ends)) Malformed ∷ write_checks (records_at words ends)

unfoldable pub write_laid : List ℕ → List ℕ → ℕ → Outcome (List ℕ)
write_laid words ends room =
    unless (laid_checks words ends ++ (room_check room (text (records_at words ends))
    ∷ [])) (text (records_at words ends))
