-- `frames::in_order_lem` meets its contract: by the kinds.
use native.Mathlib.Omega.{arith}
use Rattle.frames.proofs.Ordered.{order-up, order-end, order-down}
use Rattle.frames.proofs.in_order.Goals as goal

pub returns-then-last-kind : goal.returns-then-last-kind
returns-then-last-kind c = order-up _ _ (omega arith)

pub returns-then-last-eq-END_KIND : goal.returns-then-last-eq-END_KIND
returns-then-last-eq-END_KIND c = order-end _ _ (omega arith) c.if-last-eq-END_KIND.true

pub returns : goal.returns
returns c = order-down _ _ (omega arith) c.if-last-eq-END_KIND.false
