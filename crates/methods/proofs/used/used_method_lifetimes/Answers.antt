-- `used_method_lifetimes` meets its contract: refused as the method is, or the lifetimes of its output.
use Rattle.hir_types.proofs.QuestionLaws.{handed_on}
use Rattle.methods.proofs.UsedLaws.{used_torn, in_shape_lem, used_full, used_place, used_env, used_all}
use Rattle.methods.proofs.used.used_method_lifetimes.Goals as goal

pub returns-in_err-shape : goal.returns-in_err-shape
returns-in_err-shape c = record {
  answer = rw (handed_on c.from_residual.ensures.1) (used_torn _ _ _ _ _ c.in_err-shape.ensures.answer);
}

pub returns-then-count-gt-MAX_LIFETIMES : goal.returns-then-count-gt-MAX_LIFETIMES
returns-then-count-gt-MAX_LIFETIMES c = record {
  answer = used_full _ _ _ _ _ c.in_ok-shape.ensures.answer c.then-count-gt-MAX_LIFETIMES.either;
}

pub judge_places-requires : goal.judge_places-requires
judge_places-requires c = let s = c.args in
    in_shape_lem s.env s.structs.now s.params.now s.output.now s.force.now c.in_ok-shape.ensures.answer

pub returns-in_err-judge_places : goal.returns-in_err-judge_places
returns-in_err-judge_places c = record {
  answer = rw (handed_on c.from_residual-in_err-judge_places.ensures.1)
      (used_place _ _ _ _ _ c.in_ok-shape.ensures.answer c.if-count-gt-MAX_LIFETIMES.false c.if-pushed-gt-MAX.false
      c.in_err-judge_places.ensures);
}

pub returns-in_err-check : goal.returns-in_err-check
returns-in_err-check c = record {
  answer = rw (handed_on c.from_residual-in_err-check.ensures.1)
      (used_env _ _ _ _ _ c.in_ok-shape.ensures.answer c.if-count-gt-MAX_LIFETIMES.false c.if-pushed-gt-MAX.false
      c.in_ok-judge_places.ensures c.in_err-check.ensures.answer);
}

pub returns : goal.returns
returns c = record {
  answer = used_all _ _ _ _ _ c.in_ok-shape.ensures.answer c.if-count-gt-MAX_LIFETIMES.false c.if-pushed-gt-MAX.false
      c.in_ok-judge_places.ensures c.in_ok-check.ensures.answer c.collect_types.ensures c.ok_or.ensures.value;
}
