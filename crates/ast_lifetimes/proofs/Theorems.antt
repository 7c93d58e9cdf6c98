-- The main theorems, proved: for each statement of specs/Theorems.antt a term of exactly its type.
use Rattle.std.specs.Prelude.{Ok}
use mathlib.Core.Bool.{Bool, true, false, cond}
use mathlib.Core.Path.{◌≡◌, refl, sym, ap, ◌∙◌}
use mathlib.Core.List.{[], Nodup, Nodup-nil}
use lib.Seq.{take-append_seam}
use Rattle.answers.specs.Lists as lists
use Rattle.answers.specs.Refusals as refusals
use Rattle.lifetimes.specs.Sets as sets
use Rattle.lifetimes.specs.Bounds as bounds
use Rattle.lifetimes.specs.Walk as walk
use Rattle.answers.proofs.RefusalLaws.{given_due, none_rest}
use Rattle.lifetimes.proofs.BoundsLaws.{bounds_made}
use Rattle.lifetimes.proofs.ReachLaws.{listed_toward, traversal_once}
use Rattle.records.specs.Reading as reading
use Rattle.ast_lifetimes.specs.declared.env.LifetimeEnv.{LifetimeEnv}
use Rattle.ast_lifetimes.specs.Shapes as shapes
use Rattle.ast_lifetimes.specs.Types as types
use Rattle.ast_lifetimes.specs.Env as env
use Rattle.ast_lifetimes.specs.Theorems.{BuiltInOrder, AcceptedIsValid, AstReachIsOutlives, ListedDepthFirst}
use Rattle.ast_lifetimes.specs.Theorems.{ExamplesHold}
use Rattle.ast_lifetimes.proofs.AcceptedLaws.{accepted_valid}
use Rattle.ast_lifetimes.proofs.EntryLaws as entry-laws
use Rattle.ast_lifetimes.proofs.DepthFirstLaws.{found, found_only}

pub built_in_order : BuiltInOrder
unfolding env.from_method_item env.named_env
built_in_order names bounds types = record {
  folded = entry-laws.built_in_order names bounds types;
  names_first = λ e h. sym (ap (λ (d : LifetimeEnv). env.names_of d) (given e h)) ∙ take-append_seam (env.all_names_of names) _;
  bounds_then = λ e h. sym (ap (λ (d : LifetimeEnv). env.bounds_of d) (given e h))
      ∙ bounds_made (env.method_bounds names bounds types);
}
  where
    given : (e : LifetimeEnv) → env.from_method_item names bounds types ≡ Ok e
        → env.named_env (env.all_names_of names) (env.method_bounds names bounds types) ≡ e
    given e h =
        (given_due (env.named_env (env.all_names_of names) (env.method_bounds names bounds types)) e
        (env.item_checks names bounds types) h).1

pub accepted_is_valid : AcceptedIsValid
unfolding env.from_method_item
accepted_is_valid names bounds types e h =
    let g = given_due (env.named_env (env.all_names_of names) (env.method_bounds names bounds types)) e
    (env.item_checks names bounds types) h in
    rw (sym g.1) (accepted_valid names bounds types (none_rest g.0))

pub ast_reach_is_outlives : AstReachIsOutlives
ast_reach_is_outlives longer names bs word = record {
  unknown = λ e. rw e;
  members = λ e b. rw e (listed_toward walk.FirstFirst longer bs (env.place names word) b);
  traversed = λ e b. rw e (
    λ m. (listed_toward walk.LastFirst longer bs (env.place names word) b).1
        ((listed_toward walk.FirstFirst longer bs (env.place names word) b).0 m),
    λ m. (listed_toward walk.FirstFirst longer bs (env.place names word) b).1
        ((listed_toward walk.LastFirst longer bs (env.place names word) b).0 m),
  );
  once = once (env.is_declared names word);
}
  where
    once : (t : Bool) → Nodup (cond t (walk.traversal walk.FirstFirst longer bs (env.place names word)) [])
    once true = traversal_once walk.FirstFirst longer bs (env.place names word)
    once false = Nodup-nil

pub listed_depth_first : ListedDepthFirst
listed_depth_first longer names bs word h = record {
  listed = rw h (found longer bs (env.place names word));
  only = λ l seen f. rw h (found_only longer bs f);
}

pub examples_hold : ExamplesHold
unfolding env.from_method_item env.named_env env.list_than env.place env.name_checks env.all_pair_checks env.implied
    env.all_implied shapes.names_in_shape shapes.bounds_in_shape shapes.pairs_of types.read_type
    reading.read_all reading.in_shape reading.items_of refusals.unless lists.all lists.any lists.count bounds.bounds_from lists.filter walk.traversal walk.walk
    walk.walk_for walk.unpushed walk.neighbours sets.member sets.insert
examples_hold = (refl, (refl, (refl, (refl, tt))))
