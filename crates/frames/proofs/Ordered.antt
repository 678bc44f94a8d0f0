-- "The first byte of a frame decides its kind": what each kind's turn is, and which kinds may follow which.
use Prim.Native.Nat.{ℕ, ◌≤◌, ◌<◌}
use mathlib.Core.Bool.{Bool, true, false, not, ◌||◌, ◌&&◌, false≢true}
use mathlib.Core.List.{List}
use mathlib.Core.Path.{◌≡◌, refl, sym, ap, subst, ◌∙◌}
use native.Mathlib.Omega.{arith}
use borrow.Author.Tests.{le-leb, lt-leb, leb-true, ne_eqb, eq-eqb, not-false, not-true}
use lib.Dec.{leb, eqb}
use Rattle.std.proofs.Common.{Err}
use Rattle.model.specs.declared.Refusal.{Refusal}
use Rattle.model.specs.declared.Refusal.TheVariants.{NoEntry}
use Rattle.model.specs.Judged.{Judged, Judgement, bad, judgement_of}
use Rattle.model.specs.Frame.{node_kind, rule_kind, connection_kind, query_kind, words_kind, end_kind, node_frame, rule_frame, connection_frame, query_frame, words_frame, is_none, Frame, node, rule, connection, query, offered, close, unknown, frame_of}
use Rattle.model.specs.Node.{add_node}
use Rattle.model.specs.Rule.{add_rule}
use Rattle.model.specs.Connect.{add_connection}
use Rattle.model.specs.Run.{State, Turn, stop, node_turn, rule_turn, connection_turn, queried, opened, closed, frame_turn, turn_if, in_order}
use Rattle.laws.proofs.Judging.{faulty-bad}
use Rattle.frames.specs.declared.Store.{Store}
use Rattle.frames.specs.Step.{Step, StepIs}

module _ (s : State) (line kind : ℕ) (bs : List ℕ) where
  abbrev turn : Turn
  turn = turn_if (in_order s.kind kind) s line (frame_of kind bs)

  pub out_of_order : in_order s.kind kind ≡ false → turn_if (in_order s.kind kind) s line (frame_of kind bs) ≡ stop NoEntry
  out_of_order e = rw e refl

  module _ (o : in_order s.kind kind ≡ true) where
    framed : (f : Frame) → frame_of kind bs ≡ f → turn ≡ frame_turn s line f
    framed f e = ap (λ (b : Bool). turn_if b s line (frame_of kind bs)) o ∙ ap (frame_turn s line) e

    pub of_node : kind ≡ node_kind → turn_if (in_order s.kind kind) s line (frame_of kind bs) ≡ node_turn s (add_node s.tables.nodes (node_frame bs))
    unfolding frame_turn frame_of
    of_node e = framed (node (node_frame bs)) (rw e refl)

    pub of-rule : kind ≡ rule_kind → turn_if (in_order s.kind kind) s line (frame_of kind bs) ≡ rule_turn s (add_rule s.tables.rules (rule_frame bs))
    unfolding frame_turn frame_of
    of-rule e = framed (rule (rule_frame bs)) (rw e refl)

    pub of-connection : kind ≡ connection_kind →
        turn_if (in_order s.kind kind) s line (frame_of kind bs) ≡ connection_turn s (add_connection s.tables.nodes s.tables.conns (connection_frame bs))
    unfolding frame_turn frame_of
    of-connection e = framed (connection (connection_frame bs)) (rw e refl)

    pub of-query : kind ≡ query_kind → turn_if (in_order s.kind kind) s line (frame_of kind bs) ≡ queried s line (query_frame bs)
    unfolding frame_turn frame_of
    of-query e = framed (query (query_frame bs)) (rw e refl)

    pub of_words : kind ≡ words_kind → turn_if (in_order s.kind kind) s line (frame_of kind bs) ≡ opened s (words_frame bs)
    unfolding frame_turn frame_of
    of_words e = framed (offered (words_frame bs)) (rw e refl)

    pub of_end : kind ≡ end_kind → turn_if (in_order s.kind kind) s line (frame_of kind bs) ≡ closed s (is_none bs)
    unfolding frame_turn frame_of
    of_end e = framed (close (is_none bs)) (rw e refl)

    pub of_none : (kind ≡ 1 → ⊥) → (kind ≡ 2 → ⊥) → (kind ≡ 3 → ⊥) → (kind ≡ 4 → ⊥) → (kind ≡ 5 → ⊥) → (kind ≡ 6 → ⊥) →
        turn_if (in_order s.kind kind) s line (frame_of kind bs) ≡ stop NoEntry
    unfolding frame_turn frame_of
    of_none a b c d e f =
        framed unknown (rw (ne_eqb kind 1 a, ne_eqb kind 2 b, ne_eqb kind 3 c, ne_eqb kind 4 d, ne_eqb kind 5 e, ne_eqb kind 6 f) refl)

-- the kind before a frame of a table or a query is no higher
pub not-above : (last kind : ℕ) → in_order last kind ≡ true → kind < words_kind → last ≤ kind
unfolding in_order
not-above last kind e h = by (leb last kind) (eqb last end_kind) refl (ap (λ (x : Bool). leb last kind || (eqb last end_kind && x)) (sym (ne_eqb kind words_kind (λ q. omega arith))) ∙ e)
  where
    by : (a b : Bool) → leb last kind ≡ a → a || (b && false) ≡ true → last ≤ kind
    by true b p q = leb-true last kind p
    by false true p q = absurd (false≢true q)
    by false false p q = absurd (false≢true q)

-- which kinds may follow which
pub order-up : (last kind : ℕ) → last ≤ kind → true ≡ in_order last kind
unfolding in_order
order-up last kind h = rw (le-leb last kind h) refl

pub order-end : (last kind : ℕ) → kind < last → last ≡ 6 → eqb kind 5 ≡ in_order last kind
unfolding in_order
order-end last kind h e = rw (lt-leb last kind h, eq-eqb last 6 e) refl

pub order-down : (last kind : ℕ) → kind < last → (last ≡ 6 → ⊥) → false ≡ in_order last kind
unfolding in_order
order-down last kind h e = rw (lt-leb last kind h, ne_eqb last 6 e) refl

-- a step is that of its turn, however the turn is said
pub as-turn : {t t' : Turn} (r : Step) (u : Store) → t ≡ t' → StepIs t' r u → StepIs t r u
as-turn r u e h = subst (λ (x : Turn). StepIs x r u) (sym e) h

-- a refused entry is the turn's refusal, whichever table it was to be an entry of
pub refused : {A : Type 0} (turn : Judged A → Turn) → ((q : Refusal) → turn (bad q) ≡ stop q) → (j : Judged A) {g : Judgement} (q : Refusal) (r : Step) (u : Store) →
    g ≡ Err q → g ≡ judgement_of j → r ≡ Err q → StepIs (turn j) r u
refused turn stops j q r u was says e =
    as-turn r u (ap turn (faulty-bad j q (sym was ∙ says)) ∙ stops q) (subst (λ (x : Step). StepIs (stop q) x u) (sym e) refl)

-- a test by the last kind, said of the state
pub ordered : {b : Bool} (s : State) (last kind : ℕ) → s.kind ≡ last → b ≡ in_order last kind → not b ≡ false → in_order s.kind kind ≡ true
ordered s last kind e q n = ap (λ (x : ℕ). in_order x kind) e ∙ sym q ∙ not-false _ n

pub disordered : {b : Bool} (s : State) (last kind : ℕ) → s.kind ≡ last → b ≡ in_order last kind → not b ≡ true → in_order s.kind kind ≡ false
disordered s last kind e q n = ap (λ (x : ℕ). in_order x kind) e ∙ sym q ∙ not-true _ n
