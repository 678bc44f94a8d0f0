-- Chains of steps: the tables are ready behind one, what is printed behind one is printed from its start, and a step of the program makes one
-- longer or ends it.
use Prim.Native.Nat.{ℕ, ◌≤◌, ◌<◌}
use mathlib.Core.List.{List}
use mathlib.Core.Logic.{◌⊎◌, ⊎_elim, inl, inr}
use mathlib.Core.Path.{◌≡◌, sym, subst}
use native.Mathlib.Omega.{arith}
use lib.ListN.{length}
use Rattle.std.specs.declared.ops.ControlFlow.{ControlFlow}
use Rattle.std.specs.declared.ops.ControlFlow.TheVariants.{Continue, Break}
use Rattle.pieces.specs.Line.{kept_limit}
use Rattle.frames.specs.declared.Store.{Store}
use Rattle.reader.specs.declared.Place.{Place}
use Rattle.reader.specs.Reading.{kept_line, Advanced}
use Rattle.reader.specs.Fold.{Through, here, farther, Prints, goes, stops}
use Rattle.reader.proofs.Going.{kept-length}
use Rattle.explain.specs.declared.input.Outcome.{Outcome}
use Rattle.explain.specs.declared.input.Outcome.TheVariants.{Stopped, Trouble}
use Rattle.explain.specs.Reading.{Ready, Step, Went, Halted}
use Rattle.explain.specs.Pieces.{StoppedIn}
use Rattle.explain.proofs.Going.{ready_on, within_on, farther-on}

-- behind a chain
pub through-ready : {piece line : List ℕ} {p : Place} {t : Store} {from : ℕ} {kept : List ℕ} {q : Place} {u : Store} {at : ℕ} → Through piece p t line from q u kept at → Ready p t →
    length line ≡ kept_limit → Ready q u × (length kept ≡ kept_limit)
through-ready here r long = (r, long)
through-ready {piece} (farther {q} {u} {kept} {at} s to n v before a) r long =
    let x = through-ready before r long in
    (ready_on q u piece at (kept_line kept q.held piece at) v x.0 kept x.1 s to n a, kept-length kept piece at q.held x.0.held x.1)

-- something is printed from a place on
pub record PrintsSome (p : Place) (t : Store) (line piece : List ℕ) (from : ℕ) (more : List (List ℕ)) (status : ℕ) : Type 0 where
  pub out : List ℕ
  pub prints : Prints p t line piece from more out status

pub through-prints : {piece line : List ℕ} {p : Place} {t : Store} {from : ℕ} {kept : List ℕ} {q : Place} {u : Store} {at : ℕ} {out : List ℕ} {status : ℕ} {more : List (List ℕ)} →
    Through piece p t line from q u kept at → Prints q u kept piece at more out status → PrintsSome p t line piece from more status
through-prints here x = record { out = _; prints = x }
through-prints (farther r to n v before a) x = through-prints before (goes r to n v a x)

pub stopped-prints : {piece line : List ℕ} {p : Place} {t : Store} (more : List (List ℕ)) → StoppedIn piece p t line → PrintsSome p t line piece 0 more 2
stopped-prints more s = through-prints s.came (stops s.count s.behind s.is)

-- a chain that a step made longer, within the piece
pub record Longer (piece : List ℕ) (p : Place) (t : Store) (line : List ℕ) (at : ℕ) (r : Place) (v : Store) (new : List ℕ) (to : ℕ) : Type 0 where
  pub farther : at < to
  pub within : to ≤ length piece
  pub chain : Through piece p t line 0 r v new to

-- a step behind a chain
module _ {piece line kept : List ℕ} {p q : Place} {t u : Store} {at : ℕ} (came : Through piece p t line 0 q u kept at) (ready : Ready p t)
    (long : length line ≡ kept_limit) (new : List ℕ) (v : Store) (x : ControlFlow Outcome (Place × ℕ)) (w : Step q u piece at x new v) where
  abbrev Then : ControlFlow Outcome (Place × ℕ) → Type 0
  Then y = Step q u piece at y new v

  behind : Ready q u × (length kept ≡ kept_limit)
  behind = through-ready came ready long

  module _ (r : Place) (to : ℕ) (e : x ≡ Continue (r, to)) where
    went : Went q u piece at r to new v
    went = subst Then e w

    pub chain-on : new ≡ kept_line kept q.held piece at → at < length piece → Longer piece p t line at r v new to
    chain-on same more =
        record {
          farther = farther-on q u piece at new v behind.0 kept behind.1 r to went.count went.is more;
          within = within_on q u piece at new v behind.0 kept behind.1 r to went.count went.is (omega (arith, more));
          chain =
              subst (λ (l : List ℕ). Through piece p t line 0 r v l to) (sym same)
              (farther r to went.count v came (subst (λ (l : List ℕ). Advanced q u piece at (Continue (r, to, went.count)) l v) same went.is));
        }

  pub chain-end : (n : Outcome) → x ≡ Break n → new ≡ kept_line kept q.held piece at → (n ≡ Trouble) ⊎ ((n ≡ Stopped) × StoppedIn piece p t line)
  chain-end n e same = ⊎_elim (λ z. inl z) (λ z. inr (z.0, halted z.1)) (subst Then e w)
    where
      halted : Halted q u piece at new v → StoppedIn piece p t line
      halted h =
          record {
            at = q;
            tables = u;
            kept = kept;
            from = at;
            came = came;
            count = h.count;
            behind = v;
            is = subst (λ (l : List ℕ). Advanced q u piece at (Break h.count) l v) same h.is;
          }

-- the chain has come to the piece's end
pub chain-done : {piece line kept : List ℕ} {p q : Place} {t u : Store} {at : ℕ} → Through piece p t line 0 q u kept at → at ≡ length piece →
    Through piece p t line 0 q u kept (length piece)
chain-done {piece} {line} {kept} {p} {q} {t} {u} came e = subst (λ (n : ℕ). Through piece p t line 0 q u kept n) e came
