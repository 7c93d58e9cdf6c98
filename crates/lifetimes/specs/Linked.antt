-- The lifetimes of a definition, paired by place with the lowered words at its use.
use Rattle.std.specs.Prelude.{ℕ, cond, not, List, [], ◌∷◌, eqb, ltb, length, get_or, Ok, Some, None, Option}
use Rattle.answers.specs.declared.Refusal.TheVariants.{Mismatch}
use Rattle.lifetimes.specs.declared.def_lifetime.DefLifetime.{DefLifetime}
use Rattle.lifetimes.specs.Numbers.{def_lifetime}
use Rattle.answers.specs.Lists.{numbered}
use Rattle.answers.specs.Refusals.{Check, check, Outcome, unless}

-- refused where the words are not as many as the definition's lifetimes (7)
abbrev pub linked_checks : List ℕ → ℕ → List Check
linked_checks words count = check (not (eqb (length words) count)) Mismatch ∷ []

-- the word at a place, or none past the end
abbrev pub word_at : List ℕ → ℕ → Option ℕ
word_at words j = cond (ltb j (length words)) (Some (get_or words j 0)) None

-- the word at a place and the definition's lifetime there, or none past the end
abbrev pub pair_at : List ℕ → ℕ → Option (ℕ × DefLifetime)
pair_at words j = cond (ltb j (length words)) (Some (get_or words j 0, def_lifetime j)) None

-- the word for a lifetime of a definition that has `count` of them
unfoldable pub linked_word : List ℕ → ℕ → DefLifetime → Outcome (Option ℕ)
linked_word words count def = unless (linked_checks words count) (word_at words def.0)

-- the pair at a place, for a definition that has `count` lifetimes
unfoldable pub linked_pair : List ℕ → ℕ → ℕ → Outcome (Option (ℕ × DefLifetime))
linked_pair words count place = unless (linked_checks words count) (pair_at words place)

-- For the theorem: some words with their places, the first at j
abbrev pub pairs_with_places : ℕ → List ℕ → List (Outcome (Option (ℕ × DefLifetime)))
pairs_with_places j words = numbered (λ k word. Ok (Some (word, def_lifetime k)) ∷ []) j words
