-- What each writer appends: a connection of the table walked up or down, a congruence between two nodes.
use Rattle.std.specs.Prelude.{ℕ, Bool, true, false, List}
use Rattle.model.specs.declared.Connection.{Connection}
use Rattle.model.specs.declared.NodeNo.{NodeNo}
use Rattle.model.specs.Node.{Node, op_of, kids_of, term_of}
use Rattle.model.specs.Term.{Terms, no_terms, one, words}
use Rattle.model.specs.Flat.{later_step, later, runs}
use Rattle.entries.specs.Connections.{connection_in, oldest}

-- the node that a connection starts from, walked up or down; walked the other way it is the one that it leads to
abbrev pub start_of : Connection → Bool → NodeNo
start_of c true = c.current
start_of c false = c.next

-- what a connection of the table appends, walked up or down
unfoldable pub leg_terms : List Node → List ℕ → ℕ → Bool → Terms
unfolding later
leg_terms ns conns age up =
    let older = oldest age conns in later_step ns older (later ns older) (connection_in conns age) up

-- a node's term in words
abbrev pub term_words : List Node → ℕ → List ℕ
term_words ns n = words (one (term_of ns n))

-- what a congruence between two nodes appends, by the connections older than an age
unfoldable pub twin_terms : List Node → List ℕ → ℕ → ℕ → ℕ → Terms
unfolding runs later
twin_terms ns conns age a b = runs ns (later ns (oldest age conns)) (op_of ns a) no_terms (kids_of ns a) (kids_of ns b)
