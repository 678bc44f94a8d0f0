-- `rule_table::Entry::side_at` meets its contract: the entry stands there whole, so its sides do.
-- Assumes nothing.
use native.Mathlib.Omega.{arith}
use Prim.Native.Nat.{ℕ, ◌+◌, ◌-◌, ◌*◌, ◌≤◌}
use mathlib.Core.Path.{◌≡◌, ap}
use lib.ListN.{length, take, drop}
use Rattle.model.specs.Tables.{side_words, rule_words}
use Rattle.rule_table.proofs.Entries.{entry-is}
use Rattle.rule_table.proofs.Entry.side_at.Goals as goal
use Rattle.rule_table.proofs.Entry.side_at.Goals.{Start}

room : (c : Start) → c.args.self.index * rule_words + c.args.from + side_words ≤ length c.args.self.rules.now
room c =
    let r = c.args.self.has_rule in
    omega (arith, (entry-is c.args.self.rules.now c.args.self.index r.rule r.said).room, c.requires)

pub overflow_mul-at : goal.overflow_mul-at
overflow_mul-at c = omega (arith, room (goal.at.overflow_mul-at c).Start, c.well_formed.0)

pub overflow_add-at : goal.overflow_add-at
overflow_add-at c = omega (arith, room (goal.at.overflow_add-at c).Start, c.well_formed.0)

pub overflow_add-end : goal.overflow_add-end
overflow_add-end c = omega (arith, room (goal.at.overflow_add-end c).Start, c.well_formed.0)

pub offset_bounds-self-at : goal.offset_bounds-self-at
offset_bounds-self-at c = omega (arith, room (goal.at.offset_bounds-self-at c).Start, c.well_formed.0)

pub slice_bounds-result-end : goal.slice_bounds-result-end
slice_bounds-result-end c = omega (arith, room (goal.at.slice_bounds-result-end c).Start)

pub returns : goal.returns
returns c =
    let a = c.args in
    let at = a.self.index * rule_words + a.from in
    let e : at + side_words - at ≡ side_words = omega arith in
    ap (λ (n : ℕ). take n (drop at a.self.rules.now)) e
