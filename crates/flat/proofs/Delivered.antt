-- What is delivered of a joined pair, over accepted tables: its flat proof has as many terms and words as are told, the pair's
-- ends and one mark in each later term; and, where each rule connection is an instance of its listed rule, is a strict proof.
use Prim.Native.Nat.{ℕ}
use native.Mathlib.Omega.{arith}
use Rattle.model.specs.Forest.{Linked}
use Rattle.model.specs.Query.{Tables}
use Rattle.paths.proofs.Joined.{joined-linked}
use Rattle.flat.specs.Accepted.{AcceptedTables}
use Rattle.flat.specs.Delivered.{Delivered}
use Rattle.flat.proofs.FlatProof.{proof-count, needed-words, one-mark, ends, proves}

pub delivered : (t : Tables) → AcceptedTables t → (l r : ℕ) → Linked t.conns l r → Delivered t l r
delivered t ok l r k =
    let ns = t.nodes in
    let cs = t.conns in
    let joins = (joined-linked cs l r).1 k in
    let needs = needed-words ns cs ok.nodes ok.conns l r joins in
    record {
      counted = proof-count ns cs ok.nodes ok.conns l r joins;
      written = needs;
      between = ends ns cs ok.nodes ok.conns l r joins;
      marked = one-mark ns cs ok.nodes ok.conns l r joins;
      proves = λ premise near few. proves ns cs ok.nodes ok.conns l r joins t.rules premise near (omega arith);
    }
