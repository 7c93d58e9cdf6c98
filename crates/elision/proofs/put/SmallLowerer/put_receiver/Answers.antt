-- `put_receiver` meets its contract: each way out is one law of proofs/MethodLaws.antt.
use Rattle.elision.proofs.EmptyLaws.{empty_true, empty_false}
use Rattle.elision.proofs.OutcomeLaws.{refused_is}
use Rattle.elision.proofs.MethodLaws.{receiver_none, receiver_refused, receiver_given}
use Rattle.elision.proofs.put.SmallLowerer.put_receiver.Goals as goal

pub returns-then-is_empty-clause-lowers : goal.returns-then-is_empty-clause-lowers
returns-then-is_empty-clause-lowers c =
    receiver_none _ c.requires _ _ (empty_true _ c.is_empty.ensures c.if-is_empty.true)

pub returns-in_err-done-clause-lowers : goal.returns-in_err-done-clause-lowers
returns-in_err-done-clause-lowers c =
    receiver_refused _ c.requires _ (empty_false _ c.is_empty.ensures c.if-is_empty.false) c.in_err-done.ensures
    (refused_is c.from_residual.ensures.1)

pub returns-clause-lowers : goal.returns-clause-lowers
returns-clause-lowers c =
    receiver_given _ c.requires _ (empty_false _ c.is_empty.ensures c.if-is_empty.false) c.in_ok-done.ensures
    c.word_of.ensures c.store.ensures
