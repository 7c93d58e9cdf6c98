-- The refusals of one step on any lowerer, in order, from the step's words and the lowerer that it finds: as if nothing
-- before were refused. specs/Theorems.antt says that `one_step`, `worded_step` and `self_ref` of
-- specs/Machine.antt refuse
-- by the first of them that is due.
use Rattle.std.specs.Prelude.{ℕ, ◌+◌, Bool, true, false, cond, ◌&&◌, not, List, [], ◌∷◌, eqb, leb}
use Rattle.answers.specs.declared.Refusal.TheVariants.{Malformed, Undeclared, Full, NoSource, Ambiguous}
use Rattle.answers.specs.Lists.{count}
use Rattle.answers.specs.Refusals.{Check, check}
use Rattle.records.specs.Reading.{Reading, Read, Fails}
use Rattle.ast_lifetimes.specs.Shapes.{is_name}
use Rattle.ast_lifetimes.specs.Env.{is_declared}
use Rattle.elision.specs.declared.source.ElisionSource.{ElisionSource}
use Rattle.elision.specs.declared.source.ElisionSource.TheVariants.{NoBorrows, SelfParam, OneParam}
use Rattle.elision.specs.declared.source.ElisionSource.TheVariants.{MultipleBorrows}
use Rattle.elision.specs.declared.lowerer.Standing.{Standing}
use Rattle.elision.specs.declared.lowerer.Standing.TheVariants.{Input, Aside, Output}
use Rattle.elision.specs.declared.lowerer.Seen.{Seen}
use Rattle.elision.specs.declared.lowerer.Lowerer.{Lowerer}
use Rattle.elision.specs.Steps.{Step, Lifetime, Generics, SelfType, read_step}
use Rattle.elision.specs.Rfc.{throughout, standing_in, appended}
use Rattle.elision.specs.Machine.{fits}
use Rattle.lifetimes.specs.Limits.{most_lifetimes}

-- how many of some words are anonymous
abbrev pub anonymous_in : List ℕ → ℕ
anonymous_in words = count (λ word. eqb word 1) words

-- in the output an anonymous word has no source (5), or several positions (6)
abbrev pub source_due : ElisionSource → Bool → Check
source_due NoBorrows anon = check anon NoSource
source_due (SelfParam l) anon = check false NoSource
source_due (OneParam l) anon = check false NoSource
source_due MultipleBorrows anon = check anon Ambiguous

-- an anonymous word: a 65th lifetime (4) behind those that the words before made, or no source in the output
abbrev pub anonymous_check : Standing → Seen → ℕ → Bool → Check
anonymous_check Input s made anon = check (anon && leb most_lifetimes (s.count + made)) Full
anonymous_check Aside s made anon = check (anon && leb most_lifetimes (s.count + made)) Full
anonymous_check Output s made anon = source_due s.source anon

-- the checks at a word, in view of the words before it: a name that is not declared (3), an anonymous one that cannot
-- be
abbrev pub word_checks : List ℕ → Standing → Seen → List ℕ → ℕ → List Check
word_checks names st s before word =
    check (is_name word && not (is_declared names word)) Undeclared
    ∷ anonymous_check st s (anonymous_in before) (eqb word 1)
    ∷ []

-- the words of a step that are looked up: of a `Self` type that was there before, none
abbrev pub looked_up : Step → Lowerer → List ℕ
looked_up (Lifetime word) s = word ∷ []
looked_up (Generics g words) s = appended g words
looked_up (SelfType words) s = cond s.kept [] words

-- how they stand
abbrev pub standing_of : Bool → Step → Standing
standing_of out (Lifetime word) = standing_in out
standing_of out (Generics g words) = standing_in out
standing_of out (SelfType words) = Aside

-- the refusals of one step: 1 where it does not fit, then word by word
abbrev pub single_step_checks : List ℕ → Bool → Step → Lowerer → List Check
single_step_checks names out step s =
    check (not (fits step)) Malformed ∷ throughout (word_checks names (standing_of out step) s.seen) []
    (looked_up step s)

-- of a step that is read from some words: 1 also where they are not exactly one step
abbrev pub read_step_checks : List ℕ → Bool → Reading Step → Lowerer → List Check
read_step_checks names out (Read step []) s = single_step_checks names out step s
read_step_checks names out (Read step (word ∷ words)) s = check true Malformed ∷ []
read_step_checks names out Fails s = check true Malformed ∷ []

abbrev pub worded_checks : List ℕ → Bool → List ℕ → Lowerer → List Check
worded_checks names out words s = read_step_checks names out (read_step words) s
