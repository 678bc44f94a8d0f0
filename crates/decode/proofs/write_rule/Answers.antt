-- `decode::write_rule` meets its contract: zeros, and over them the head and the items of each side.
use native.Mathlib.Omega.{arith}
use mathlib.Core.Path.{◌≡◌, sym, ap, ◌∙◌}
use lib.ListN.{length, replicate, length-set, length-replicate}
use Rattle.model.specs.Tables.{rule_words}
use Rattle.decode.proofs.RuleWords.{two-written}
use Rattle.decode.proofs.write_rule.Goals.{After-fill}
use Rattle.decode.proofs.write_rule.Goals as goal

-- every word is zero, and as many as before
zero : (c : After-fill) → c.fill.new.self ≡ replicate (length c.args.slot.now) 0
zero c = c.fill.ensures.after (λ y e. e)

long : (c : After-fill) → length c.fill.new.self ≡ rule_words
long c = ap length (zero c) ∙ length-replicate _ _ ∙ c.requires.1

pub word_at-requires : goal.word_at-requires
word_at-requires c =
    omega (arith, c.requires.0.head)

pub bounds-slot-0 : goal.bounds-slot-0
bounds-slot-0 c =
    omega (arith, long (goal.at.bounds-slot-0 c).After-fill)

pub overflow_cast-slot : goal.overflow_cast-slot
overflow_cast-slot c =
    omega (arith, c.requires.0.few)

pub bounds-slot-1 : goal.bounds-slot-1
bounds-slot-1 c =
    let l = long (goal.at.bounds-slot-1 c).After-fill in simp length-set (omega (arith, l))

pub overflow_cast-slot-2 : goal.overflow_cast-slot-2
overflow_cast-slot-2 c =
    omega (arith, c.requires.0.others-few)

pub bounds-slot-2 : goal.bounds-slot-2
bounds-slot-2 c =
    let l = long (goal.at.bounds-slot-2 c).After-fill in simp length-set (omega (arith, l))

pub put_items-requires : goal.put_items-requires
put_items-requires c =
    let l = long (goal.at.put_items-requires c).After-fill in
    (c.requires.0.head, c.requires.0.lefts, simp length-set (omega (arith, l, c.requires.0.few)))

pub put_items-requires-2 : goal.put_items-requires-2
put_items-requires-2 c =
    let l = long (goal.at.put_items-requires-2 c).After-fill in
    let same : length c.put_items.new.slot ≡ rule_words = c.put_items.auto.slot ∙ simp length-set l in
    (c.requires.0.within, c.requires.0.rights, omega (arith, same, c.requires.0.others-few))

pub shape_of-slot : goal.shape_of-slot
shape_of-slot c =
    let l = long (goal.at.shape_of-slot c).After-fill in
    let set_same : length c.put_items.new.slot ≡ rule_words = c.put_items.auto.slot ∙ simp length-set l in
    c.put_items-2.auto.slot ∙ set_same ∙ sym c.requires.1

pub returns : goal.returns
returns c =
    two-written c.requires.0 _ c.word_at.ensures c.args.slot.now _ _ _ c.requires.1 (zero (goal.at.returns c).After-fill) c.put_items.ensures c.put_items-2.ensures
