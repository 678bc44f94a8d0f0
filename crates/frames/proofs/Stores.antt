-- The store with other nodes, rules, connections, words or text.
use mathlib.Core.List.{List}
use Prim.Native.Nat.{ℕ}
use Rattle.frames.specs.declared.Store.{Store}

abbrev pub with_nodes : Store → List ℕ → Store
with_nodes t ws = record { nodes = ws; rules = t.rules; conns = t.conns; classes = t.classes; area = t.area; room = t.room }

abbrev pub with_rules : Store → List ℕ → Store
with_rules t ws = record { nodes = t.nodes; rules = ws; conns = t.conns; classes = t.classes; area = t.area; room = t.room }

abbrev pub with_conns : Store → List ℕ → List ℕ → Store
with_conns t ws tops = record { nodes = t.nodes; rules = t.rules; conns = ws; classes = tops; area = t.area; room = t.room }

abbrev pub with_text : Store → List ℕ → List ℕ → Store
with_text t ws text = record { nodes = t.nodes; rules = t.rules; conns = t.conns; classes = t.classes; area = ws; room = text }
