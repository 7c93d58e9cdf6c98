-- RFC 141's rules of elision, by counting input positions. What a lifetime is lowered to is said in view of what stands
-- before it; nothing here has a state.
--
-- In order: occurrences of lifetimes in a method; the lifetimes that the inputs make; the source of elision; the value
-- of each occurrence and the refusals due at it; steps; the whole method.
use Rattle.std.specs.Prelude.{ℕ, ◌+◌, ◌-◌, Bool, true, false, cond, ◌&&◌, not, List, [], ◌∷◌, ◌++◌, map, eqb, Ok, Err}
use Rattle.std.specs.Prelude.{leb, length, replicate}
use Rattle.answers.specs.declared.Refusal.TheVariants.{Undeclared, Full, NoSource, Ambiguous}
use Rattle.lifetimes.specs.declared.lifetime.Lifetime as hir
use Rattle.lifetimes.specs.declared.maybe_static.MaybeStatic.{MaybeStatic}
use Rattle.lifetimes.specs.declared.maybe_static.MaybeStatic.TheVariants.{Static, NonStatic}
use Rattle.lifetimes.specs.Numbers.{lifetime}
use Rattle.answers.specs.Lists.{any, count}
use Rattle.answers.specs.Refusals.{Check, check, Outcome, unless}
use Rattle.ast_lifetimes.specs.Shapes.{is_name}
use Rattle.ast_lifetimes.specs.Env.{place, is_declared}
use Rattle.elision.specs.declared.lowerer.Standing.{Standing}
use Rattle.elision.specs.declared.lowerer.Standing.TheVariants.{Input, Aside, Output}
use Rattle.elision.specs.Steps.{Step, Lifetime, Generics, SelfType, Receiver, NoSelf, SelfRef}
use Rattle.lifetimes.specs.Limits.{most_lifetimes}

-- a lifetime of a method, or 'static
abbrev pub MethodLifetime : Type 0
MethodLifetime = MaybeStatic hir.Lifetime

-- what each of a list brings, in view of those before it
unfoldable pub throughout : {A B : Type 0} → (List A → A → List B) → List A → List A → List B
throughout each before [] = []
throughout each before (a ∷ l) = each before a ++ throughout each (before ++ (a ∷ [])) l

-- Occurrences

-- a declared lifetime word, and how it stands in the method: an input position, in the output, or neither
pub record Occurrence : Type 0 where
  pub standing : Standing
  pub word : ℕ

abbrev pub occurs : Standing → ℕ → Occurrence
occurs s w = record { standing = s; word = w }

-- "Anonymous makes the next number", but not in the output
abbrev pub makes : Standing → Bool
makes Input = true
makes Aside = true
makes Output = false

abbrev pub is_new : Occurrence → Bool
is_new o = makes o.standing && eqb o.word 1

-- how many new lifetimes some occurrences make
abbrev pub anonymous : List Occurrence → ℕ
anonymous l = count is_new l

-- how many lifetimes there are, the declared ones and the new ones of some occurrences
abbrev pub count_of : List ℕ → List Occurrence → ℕ
count_of names before = length names + anonymous before

-- a word's lifetime, given that of an anonymous one: 0 'static, 1 anonymous, else a name's number
abbrev pub lifetime_of : List ℕ → MethodLifetime → ℕ → MethodLifetime
lifetime_of names elided word =
    cond (eqb word 1) elided (cond (eqb word 0) Static (NonStatic (lifetime (place names word))))

-- the lifetime of a word that makes a new one if it is anonymous: each elided input its own, the next number
abbrev pub made_at : List ℕ → List Occurrence → ℕ → MethodLifetime
made_at names before word = lifetime_of names (NonStatic (lifetime (count_of names before))) word

-- The source of elision

-- a lifetime, if it stands in an input position
abbrev pub if_input : Standing → MethodLifetime → List MethodLifetime
if_input Input l = l ∷ []
if_input Aside l = []
if_input Output l = []

abbrev pub position_at : List ℕ → List Occurrence → Occurrence → List MethodLifetime
position_at names before o = if_input o.standing (made_at names before o.word)

-- the lifetimes of all input positions, in order
abbrev pub positions : List ℕ → List Occurrence → List MethodLifetime
positions names l = throughout (position_at names) [] l

-- the lifetime of the only position. None is 5, several are 6
abbrev pub only : List MethodLifetime → Outcome MethodLifetime
only [] = Err NoSource
only (l ∷ []) = Ok l
only (l ∷ m ∷ ls) = Err Ambiguous

-- "`&self` first, static included; else exactly one input position"
abbrev pub source_at : List ℕ → Receiver → List Occurrence → Outcome MethodLifetime
source_at names NoSelf before = only (positions names before)
source_at names (SelfRef word) before = Ok (made_at names [] word)

-- The value of an occurrence, and the refusals due at it

-- a source that is not there stands for none; it is never looked at
abbrev pub source_or : Outcome MethodLifetime → MethodLifetime
source_or (Ok l) = l
source_or (Err r) = Static

-- the lifetime of an anonymous word that stands so
abbrev pub elided_at : List ℕ → Receiver → List Occurrence → Standing → MethodLifetime
elided_at names self before Input = NonStatic (lifetime (count_of names before))
elided_at names self before Aside = NonStatic (lifetime (count_of names before))
elided_at names self before Output = source_or (source_at names self before)

-- the lifetime of an occurrence, in view of those before it
abbrev pub value_at : List ℕ → Receiver → List Occurrence → Occurrence → MethodLifetime
value_at names self before o = lifetime_of names (elided_at names self before o.standing) o.word

abbrev pub values : List ℕ → Receiver → List Occurrence → List Occurrence → List MethodLifetime
values names self before l = throughout (λ b o. value_at names self b o ∷ []) before l

-- an anonymous one in the output without a source: 5 or 6
abbrev pub source_check : Bool → Outcome MethodLifetime → Check
source_check anon (Ok l) = check false NoSource
source_check anon (Err r) = check anon r

-- an anonymous one: a 65th lifetime (4), or no source in the output
abbrev pub elided_check : List ℕ → Receiver → List Occurrence → Standing → Bool → Check
elided_check names self before Input anon = check (anon && leb most_lifetimes (count_of names before)) Full
elided_check names self before Aside anon = check (anon && leb most_lifetimes (count_of names before)) Full
elided_check names self before Output anon = source_check anon (source_at names self before)

-- a name that is not declared (3), an anonymous one that cannot be
abbrev pub checks_at : List ℕ → Receiver → List Occurrence → Occurrence → List Check
checks_at names self before o =
    check (is_name o.word && not (is_declared names o.word)) Undeclared
    ∷ elided_check names self before o.standing (eqb o.word 1)
    ∷ []

abbrev pub checks : List ℕ → Receiver → List Occurrence → List Occurrence → List Check
checks names self before l = throughout (checks_at names self) before l

-- Steps

-- a step, in `steps` or in `returns`
pub record Item : Type 0 where
  pub output : Bool
  pub step : Step

abbrev pub input : Step → Item
input s = record { output = false; step = s }

abbrev pub output : Step → Item
output s = record { output = true; step = s }

-- how the lifetimes of kinds 0 and 1 stand
abbrev pub standing_in : Bool → Standing
standing_in false = Input
standing_in true = Output

-- "Kind 1 appends anonymous ones until g are given and never drops any"
abbrev pub appended : ℕ → List ℕ → List ℕ
appended g words = words ++ replicate (g - length words) 1

abbrev pub is_self_type : Step → Bool
is_self_type (Lifetime word) = false
is_self_type (Generics g words) = false
is_self_type (SelfType words) = true

abbrev pub has_self_type : List Item → Bool
has_self_type l = any (λ i. is_self_type i.step) l

-- the occurrences of a step: kind 2 has some at its first use only, and they are no positions; "words of later uses
-- aren't looked up"
abbrev pub step_occurrences : Bool → Bool → Step → List Occurrence
step_occurrences again out (Lifetime word) = map (occurs (standing_in out)) (word ∷ [])
step_occurrences again out (Generics g words) = map (occurs (standing_in out)) (appended g words)
step_occurrences again out (SelfType words) = cond again [] (map (occurs Aside) words)

abbrev pub occurrences_at : List Item → Item → List Occurrence
occurrences_at before i = step_occurrences (has_self_type before) i.output i.step

-- the occurrences of a method: that of `&self`, then those of its steps
abbrev pub self_occurrences : Receiver → List Occurrence
self_occurrences NoSelf = []
self_occurrences (SelfRef word) = occurs Aside word ∷ []

abbrev pub occurrences : Receiver → List Item → List Occurrence
occurrences self l = self_occurrences self ++ throughout occurrences_at [] l

-- the lifetimes of the `Self` type: made at its first use among some steps
unfoldable pub own_from : List ℕ → Receiver → List Item → List Item → List MethodLifetime
own_from names self before [] = []
own_from names self before (i ∷ l) =
    cond (is_self_type i.step)
    (values names self (occurrences self before) (step_occurrences false i.output i.step))
    (own_from names self (before ++ (i ∷ [])) l)

-- the lifetimes of a step: "Kind 2 answers with the list made at its first use"
abbrev pub lowered_at : List ℕ → Receiver → List Item → Item → List MethodLifetime
lowered_at names self before i =
    cond (is_self_type i.step) (own_from names self [] (before ++ (i ∷ [])))
    (values names self (occurrences self before) (occurrences_at before i))

abbrev pub step_checks : List ℕ → Receiver → List Item → Item → List Check
step_checks names self before i = checks names self (occurrences self before) (occurrences_at before i)

-- The whole method

abbrev pub inputs : List Step → List Item
inputs steps = map input steps

abbrev pub outputs : List Step → List Item
outputs returns = map output returns

abbrev pub lowered_self : List ℕ → Receiver → List MethodLifetime
lowered_self names self = values names self [] (self_occurrences self)

abbrev pub lowered_steps : List ℕ → Receiver → List Step → List MethodLifetime
lowered_steps names self steps = throughout (lowered_at names self) [] (inputs steps)

abbrev pub lowered_returns : List ℕ → Receiver → List Step → List Step → List MethodLifetime
lowered_returns names self steps returns = throughout (lowered_at names self) (inputs steps) (outputs returns)

-- "(at most 64)": all lifetimes, declared and new
abbrev pub count_all : List ℕ → Receiver → List Step → List Step → ℕ
count_all names self steps returns = count_of names (occurrences self (inputs steps ++ outputs returns))

-- by place: self, steps, returns; within a step the words in order, then the appended ones
abbrev pub elision_checks : List ℕ → Receiver → List Step → List Step → List Check
elision_checks names self steps returns =
    checks names self [] (self_occurrences self)
    ++ (throughout (step_checks names self) [] (inputs steps)
    ++ throughout (step_checks names self) (inputs steps) (outputs returns))

-- the lifetimes of self, steps and returns, and how many lifetimes there are
pub record Method : Type 0 where
  pub self : List MethodLifetime
  pub steps : List MethodLifetime
  pub returns : List MethodLifetime
  pub count : ℕ

abbrev pub method_of : List ℕ → Receiver → List Step → List Step → Method
method_of names self steps returns = record {
  self = lowered_self names self;
  steps = lowered_steps names self steps;
  returns = lowered_returns names self steps returns;
  count = count_all names self steps returns;
}

-- what RFC 141 gives for a method, or the first refusal due
unfoldable pub rfc141 : List ℕ → Receiver → List Step → List Step → Outcome Method
rfc141 names self steps returns = unless (elision_checks names self steps returns) (method_of names self steps returns)
