-- `run` meets its contract: each way out is one law of proofs/MethodLaws.antt.
use Rattle.elision.proofs.OutcomeLaws.{refused_is}
use Rattle.elision.proofs.MethodLaws.{all_first, all_second, all_third, all_given}
use Rattle.elision.proofs.method.run.Goals as goal

pub returns-in_err-selves : goal.returns-in_err-selves
returns-in_err-selves c = all_first _ _ _ _ c.in_err-selves.ensures.lowers (refused_is c.from_residual.ensures.1)

pub returns-in_err-stepped : goal.returns-in_err-stepped
returns-in_err-stepped c =
    all_second _ _ _ _ c.in_ok-selves.ensures.lowers c.in_err-stepped.ensures.lowers
    (refused_is c.from_residual-in_err-stepped.ensures.1)

pub returns-in_err-returned : goal.returns-in_err-returned
returns-in_err-returned c =
    all_third _ _ _ _ c.in_ok-selves.ensures.lowers c.in_ok-stepped.ensures.lowers c.in_err-returned.ensures.lowers
    (refused_is c.from_residual-in_err-returned.ensures.1)

pub returns : goal.returns
returns c =
    all_given _ _ _ _ c.in_ok-selves.ensures.lowers c.in_ok-stepped.ensures.lowers c.in_ok-returned.ensures.lowers
