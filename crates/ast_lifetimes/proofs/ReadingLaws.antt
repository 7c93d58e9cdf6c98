-- What is read is what stands there: the words of a type, and of the types of a record in shape.
use Prim.Native.Nat.{ℕ, zero, suc}
use mathlib.Core.Bool.{true}
use mathlib.Core.Path.{◌≡◌, refl}
use mathlib.Core.List.{List, [], ◌∷◌, ◌++◌, append_assoc, flat_map}
use lib.Dec.{eqb}
use borrow.Author.Tests.{eqb-true}
use Rattle.records.proofs.ReadingLaws.{Holds, read, fails, holds_cond, holds_onward, LifetimesIn, WordIn}
use Rattle.records.proofs.ReadingLaws.{lifetimes_read, word_read, items_encoded}
use Rattle.ast_lifetimes.specs.Types.{TypeName, read_type, types_in_shape, type_names_of}
use Rattle.ast_lifetimes.specs.Inner.{encode, encode_all}

-- what was read, and then the words behind it, are the words that were there
abbrev TypeIn : List ℕ → TypeName → List ℕ → Type 0
TypeIn words t rest = encode t ++ rest ≡ words

type_read : (n : ℕ) (words : List ℕ) → Holds (TypeIn words) (read_type n words)
unfolding read_type encode
type_read zero words = fails
type_read (suc n) [] = fails
type_read (suc n) (code ∷ words) =
    let P = TypeIn (code ∷ words) in
    holds_cond P (eqb code 0) (λ e. read (rw (eqb-true code 0 e)))
    (holds_cond P (eqb code 1)
    (λ e. holds_onward (LifetimesIn words) P (lifetimes_read words) (λ ls rest p. read (rw (eqb-true code 1 e, p))))
    (holds_cond P (eqb code 2)
    (λ e. holds_onward (WordIn words) P (word_read words)
    (λ l rest p. holds_onward (TypeIn rest) P (type_read n rest)
    (λ t behind q. read (rw (eqb-true code 2 e, q, p)))))
    (holds_cond P (eqb code 3) (λ e. holds_onward (TypeIn words) P (type_read n words) (λ t rest p. read (rw (eqb-true code 3 e, p))))
    (holds_cond P (eqb code 4)
    (λ e. holds_onward (TypeIn words) P (type_read n words)
    (λ t rest p. holds_onward (TypeIn rest) P (type_read n rest)
    (λ u behind q. read (rw (eqb-true code 4 e, append_assoc, q, p)))))
    fails))))

-- The words of the types of a record in shape are all its words
pub types_encoded : (words : List ℕ) → types_in_shape words ≡ true → encode_all (type_names_of words) ≡ words
unfolding flat_map
types_encoded words e = items_encoded (λ number. read_type 8) encode (λ number. type_read 8) encode_all refl (λ t ts. refl) words e
