-- The main theorems: terms of the types stated in specs/Theorems.antt.
use Rattle.std.specs.Prelude.{Ok}
use Prim.Native.Nat.{ℕ}
use mathlib.Core.Path.{◌≡◌, refl, sym, ap, ◌∙◌}
use mathlib.Core.List.{List, map}
use lib.ListN.{length, get_or}
use native.Mathlib.Omega.{arith}
use borrow.Author.Tests.{le-ltb}
use Rattle.answers.specs.Refusals.{Outcome, unless, next, end}
use Rattle.lifetimes.specs.Examples as reach
use Rattle.answers.proofs.RefusalLaws.{due_given, due_refused, none_more}
use Rattle.lifetimes.proofs.Theorems as reach-proofs
use Rattle.ast_lifetimes.specs.Examples as ast
use Rattle.ast_lifetimes.proofs.Theorems as ast-proofs
use Rattle.elision.specs.Examples as elision
use Rattle.elision.proofs.Theorems as elision-proofs
use Rattle.borrowing_param.specs.Examples as visits
use Rattle.borrowing_param.proofs.Theorems as visits-proofs
use Rattle.listing.specs.Listing.{room_bytes, said, response, listing_of, listing_checks, listing}
use Rattle.listing.specs.Examples.{reach_example, ast_example, elision_example, visits_example, program_examples}
use Rattle.listing.specs.Theorems.{ProgramAnswers, VisitsAsListed, ToldApart, ExamplesHold}
use Rattle.listing.proofs.CallsLaws.{fits_room}
use Rattle.listing.proofs.ProgramLaws.{whole, judge, fit}
use Rattle.listing.proofs.VisitLaws.{as_listed}
use Rattle.listing.proofs.ExampleLaws.{right_more, reach_right, ast_right, elision_right, visits_right}
use Rattle.listing.proofs.ExampleLaws.{program_right, from_visits, from_elision, from_ast}

pub program_answers : ProgramAnswers
unfolding response listing
program_answers bytes = record {
  judged = judge bytes (unless (listing_checks bytes) (whole bytes)) refl;
  refused = λ k f. ap said (due_refused (whole bytes) f);
  complete = λ n. ap said (due_given (whole bytes) n);
  fits = fit bytes (unless (listing_checks bytes) (whole bytes)) refl;
  same = λ n. due_given (whole bytes)
      (none_more n (next (le-ltb room_bytes (length (whole bytes)) (fits_room bytes n)) end))
      ∙ ap (λ (o : Outcome (List ℕ)). Ok (said o)) (sym (due_given (whole bytes) n));
}

pub told_apart : ToldApart
unfolding listing_of
told_apart r k e = let z : ◌≡◌ {A = ℕ} 108 114 = ap (λ (l : List ℕ). get_or l 0 0) e in omega arith

pub visits_as_listed : VisitsAsListed
visits_as_listed bytes edges fine lent = as_listed bytes edges fine lent (program_answers bytes) told_apart

pub examples_hold : ExamplesHold
examples_hold =
    right_more (map reach_example reach.starred) from_ast (reach_right reach.starred reach-proofs.examples_hold)
    (right_more (map ast_example ast.starred) from_elision (ast_right ast.starred ast-proofs.examples_hold)
    (right_more (map elision_example elision.starred) from_visits (elision_right elision.starred (elision-proofs.examples_hold).0)
    (right_more (map visits_example visits.starred) program_examples (visits_right visits.starred (visits-proofs.examples_hold).0)
    program_right)))
