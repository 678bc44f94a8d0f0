-- Document 01's P rows, computed: one list of inputs with the outputs they must give, and one claim.
-- Behind P1 to P12 stand rows for the errors that look right (E1 to E5), the end of the input (E6, E7), a run that goes on (E8),
-- directions and congruences (E9 to E11), lines and frames (F1 to F6), tables (T1 to T4) and the checker's other refusals (C1 to C10).
-- Claims.antt has what no line of input shows: limits, areas, rooms and reports.
use Prim.Native.String.{String, ◌++◌}
use Rattle.std.specs.Prelude.{List, [], ◌∷◌, map, ◌≡◌, refl}
use Rattle.model.specs.Text.{bytes}
use Rattle.model.specs.Run.{output}

-- Node 0 is the leaf o1, 1 the leaf o2, 2 is (o3 o1), 3 is (o3 o2). Rule r7 makes o1 to o2.
abbrev node_lines : String
node_lines = "01000100\n" ++ "01000200\n" ++ "010003010000\n" ++ "010003010001\n"

abbrev r7 : String
r7 = "0200070100010001000200\n"

-- 0 to 1 by r7, forward, and 2 to 3 by congruence
abbrev by_rule : String
by_rule = "030000000101000701\n"

abbrev by_congruence : String
by_congruence = "030002000300000000\n"

abbrev table_lines : String
table_lines = node_lines ++ r7 ++ by_rule ++ by_congruence

-- the offered term (o3 o1), and two that may follow it
abbrev first : String
first = "05000301000000000100000000\n"

abbrev second : String
second = "05000301000000000200010007\n"

-- the offered term (o5 o1 o1)
abbrev pair : String
pair = "05000502000000" ++ "000100000000" ++ "000100000000\n"

-- r9 makes (o5 ?0 ?0) to ?0, and r10 makes (o5 ?0 ?1) to ?0
abbrev r9 : String
r9 = "02000901000502" ++ "0000" ++ "0000" ++ "0000\n"

abbrev r10 : String
r10 = "02000a01000502" ++ "0000" ++ "0001" ++ "0000\n"

pub record Row : Type 0 where
  pub input : String
  pub expected : String

abbrev pub rows : List Row
rows =
    -- P1 the run of the paper
    record {
      input = table_lines ++ "0400020003\n" ++ first ++ second ++ "06\n";
      expected = "distance 1\n" ++ "(o3 o1)\n" ++ "(o3 (Rewrite=> r7 o2))\n" ++ "accepted 2\n";
    }
    -- P2 query 3, 2
    ∷ record { input = table_lines ++ "0400030002\n"; expected = "distance 1\n" ++ "(o3 o2)\n" ++ "(o3 (Rewrite<= r7 o1))\n" }
    -- P3 query 1, 1
    ∷ record { input = table_lines ++ "0400010001\n"; expected = "distance 0\n" ++ "o2\n" }
    -- P4 query 0, 2: 9
    ∷ record { input = table_lines ++ "0400000002\n"; expected = "refused 9 line 8\n" }
    -- P5 query 0, 4: 8
    ∷ record { input = table_lines ++ "0400000004\n"; expected = "refused 8 line 8\n" }
    -- P6 root o4 in the second term: 17
    ∷ record { input = table_lines ++ first ++ "05000401000000000200010007\n" ++ "06\n"; expected = "rejected 17 term 1\n" }
    -- P7 the mark names r8: 16
    ∷ record { input = table_lines ++ first ++ "05000301000000000200010008\n" ++ "06\n"; expected = "rejected 16 term 1\n" }
    -- P8 only one, unmarked, term
    ∷ record { input = table_lines ++ first ++ "06\n"; expected = "accepted 1\n" }
    -- P9 06 alone: 12
    ∷ record { input = "06\n"; expected = "rejected 12 term 0\n" }
    -- P10 the two 03 lines exchanged: 7
    ∷ record { input = node_lines ++ r7 ++ by_congruence ++ by_rule; expected = "refused 7 line 6\n" }
    -- P11 two leaves o1 joined by congruence
    ∷ record {
      input = "01000100\n" ++ "01000100\n" ++ "030000000100000000\n" ++ "0400000001\n";
      expected = "distance 0\n" ++ "o1\n";
    }
    -- P12 pattern (o5 ?0 ?0) on (o5 o1 o2): 17
    ∷ record {
      input = r9 ++ "05000502000000" ++ "000100000000" ++ "000200000000\n" ++ "05000100010009\n" ++ "06\n";
      expected = "rejected 17 term 1\n";
    }
    -- E1 a binding that carries an earlier step's mark is compared without it
    ∷ record {
      input =
          r7 ++ r9 ++ "05000502000000" ++ "000100000000" ++ "000200000000\n" ++ "05000502000000" ++ "000200010007" ++ "000200000000\n"
          ++ "05000200010009\n" ++ "06\n";
      expected = "accepted 3\n";
    }
    -- E2 children are compared to the end of the longer list
    ∷ record {
      input = r7 ++ "05000302000000" ++ "000100000000" ++ "000100000000\n" ++ "05000301000000" ++ "000200010007\n" ++ "06\n";
      expected = "rejected 17 term 1\n";
    }
    -- E3 and so are the children of a congruence
    ∷ record {
      input = "01000100\n" ++ "010003010000\n" ++ "0100030200000000\n" ++ "030001000200000000\n";
      expected = "refused 7 line 4\n";
    }
    -- E4 on a backward step a variable that stands only on the left is bound
    ∷ record {
      input = r10 ++ "05000100000000\n" ++ "0500050202000a" ++ "000100000000" ++ "000200000000\n" ++ "06\n";
      expected = "accepted 2\n";
    }
    -- E5 a congruence that only itself would support
    ∷ record {
      input = "01000100\n" ++ "010003010000\n" ++ "010003010001\n" ++ "030000000201000701\n" ++ "030001000200000000\n";
      expected = "refused 7 line 5\n";
    }
    -- E6 terms still open at the end, E7 no line feed at the end
    ∷ record { input = table_lines ++ first; expected = "refused 2 line 9\n" }
    ∷ record { input = table_lines ++ "0400020003"; expected = "refused 1 line 8\n" }
    -- E8 a refused query, and the run goes on
    ∷ record { input = table_lines ++ "0400000002\n" ++ "0400010001\n"; expected = "refused 9 line 8\n" ++ "distance 0\n" ++ "o2\n" }
    -- E9 a backward connection, walked from current to next and the other way
    ∷ record {
      input = "01000100\n" ++ "01000200\n" ++ "030000000101000700\n" ++ "0400000001\n" ++ "0400010000\n";
      expected = "distance 1\n" ++ "o1\n" ++ "(Rewrite<= r7 o2)\n" ++ "distance 1\n" ++ "o2\n" ++ "(Rewrite=> r7 o1)\n";
    }
    -- E10 a congruence over two children, both changed, both ways: first to last each way
    ∷ record {
      input =
          "01000100\n" ++ "01000200\n" ++ "01000300\n" ++ "01000400\n" ++ "0100050200000002\n" ++ "0100050200010003\n"
          ++ "030000000101000701\n" ++ "030002000301000801\n" ++ "030004000500000000\n" ++ "0400040005\n" ++ "0400050004\n";
      expected =
          "distance 2\n" ++ "(o5 o1 o3)\n" ++ "(o5 (Rewrite=> r7 o2) o3)\n" ++ "(o5 o2 (Rewrite=> r8 o4))\n"
          ++ "distance 2\n" ++ "(o5 o2 o4)\n" ++ "(o5 (Rewrite<= r7 o1) o4)\n" ++ "(o5 o1 (Rewrite<= r8 o3))\n";
    }
    -- E11 a rule hop and then a congruence: the first term of its run merges into the last one written and keeps its marks
    ∷ record {
      input =
          node_lines ++ "01000900\n" ++ by_rule ++ "030004000201000601\n" ++ by_congruence ++ "0400040003\n" ++ "0400030004\n";
      expected =
          "distance 2\n" ++ "o9\n" ++ "(Rewrite=> r6 (o3 o1))\n" ++ "(o3 (Rewrite=> r7 o2))\n"
          ++ "distance 2\n" ++ "(o3 o2)\n" ++ "(o3 (Rewrite<= r7 o1))\n" ++ "(Rewrite<= r6 o9)\n";
    }
    -- F1 lines that are no lower-case hex pairs: empty, an odd digit, and the bytes around 0 to 9 and a to f
    ∷ record { input = "\n"; expected = "refused 1 line 1\n" }
    ∷ record { input = "010\n"; expected = "refused 1 line 1\n" }
    ∷ record { input = "01000/00\n"; expected = "refused 1 line 1\n" }
    ∷ record { input = "01000:00\n"; expected = "refused 1 line 1\n" }
    ∷ record { input = "01000A00\n"; expected = "refused 1 line 1\n" }
    ∷ record { input = "01000`00\n"; expected = "refused 1 line 1\n" }
    ∷ record { input = "01000g00\n"; expected = "refused 1 line 1\n" }
    -- F2 unknown kinds
    ∷ record { input = "00\n"; expected = "refused 2 line 1\n" }
    ∷ record { input = "07\n"; expected = "refused 2 line 1\n" }
    -- F3 kinds that go down: 01 after 02, 03 after 04, 04 after 05, 04 after 06
    ∷ record { input = r7 ++ "01000100\n"; expected = "refused 2 line 2\n" }
    ∷ record { input = table_lines ++ "0400010001\n" ++ by_rule; expected = "distance 0\n" ++ "o2\n" ++ "refused 2 line 9\n" }
    ∷ record { input = table_lines ++ first ++ "0400010001\n"; expected = "refused 2 line 9\n" }
    ∷ record { input = table_lines ++ first ++ "06\n" ++ "0400010001\n"; expected = "accepted 1\n" ++ "refused 2 line 10\n" }
    -- F4 a node's count byte, and how many children follow; nine children
    ∷ record { input = "01000100\n" ++ "01000301\n"; expected = "refused 2 line 2\n" }
    ∷ record { input = "01000100\n" ++ "010003000000\n"; expected = "refused 2 line 2\n" }
    ∷ record { input = "01000100\n" ++ "01000309" ++ "000000000000" ++ "000000000000" ++ "000000000000\n"; expected = "refused 2 line 2\n" }
    -- F5 lengths of the other kinds: a byte behind each, and words that are no sixes
    ∷ record { input = "020007010001000100020000\n"; expected = "refused 2 line 1\n" }
    ∷ record { input = "03000000010100070100\n"; expected = "refused 2 line 1\n" }
    ∷ record { input = "040000000000\n"; expected = "refused 2 line 1\n" }
    ∷ record { input = "05\n"; expected = "refused 2 line 1\n" }
    ∷ record { input = "050001000000\n"; expected = "refused 2 line 1\n" }
    ∷ record { input = "0600\n"; expected = "refused 2 line 1\n" }
    -- F6 words end with their proof: a second 06 has none, and 05 after 06 starts anew
    ∷ record { input = table_lines ++ first ++ "06\n" ++ "06\n"; expected = "accepted 1\n" ++ "rejected 12 term 0\n" }
    ∷ record { input = table_lines ++ first ++ "06\n" ++ first ++ second ++ "06\n"; expected = "accepted 1\n" ++ "accepted 2\n" }
    -- T1 a child that is not below its node: 4
    ∷ record { input = "010001010000\n"; expected = "refused 4 line 1\n" }
    -- T2 a rule number listed before, and a right variable absent on the left: 5
    ∷ record { input = r7 ++ r7; expected = "refused 5 line 2\n" }
    ∷ record { input = "0200070100010000" ++ "00\n"; expected = "refused 5 line 1\n" }
    -- T3 a connection out of the table, to itself, from a node with a parent, and between nodes that are joined: 6
    ∷ record { input = node_lines ++ "030004000001000701\n"; expected = "refused 6 line 5\n" }
    ∷ record { input = node_lines ++ "030000000401000701\n"; expected = "refused 6 line 5\n" }
    ∷ record { input = node_lines ++ "030000000001000701\n"; expected = "refused 6 line 5\n" }
    ∷ record { input = node_lines ++ by_rule ++ "030000000201000701\n"; expected = "refused 6 line 6\n" }
    ∷ record { input = node_lines ++ by_rule ++ "030001000001000701\n"; expected = "refused 6 line 6\n" }
    -- T4 a connection's fields outside their sets: kind 2, forward 2, a congruence with a rule or with a direction
    ∷ record { input = node_lines ++ "030000000102000701\n"; expected = "refused 2 line 5\n" }
    ∷ record { input = node_lines ++ "030000000101000702\n"; expected = "refused 2 line 5\n" }
    ∷ record { input = node_lines ++ "030002000300000700\n"; expected = "refused 2 line 5\n" }
    ∷ record { input = node_lines ++ "030002000300000001\n"; expected = "refused 2 line 5\n" }
    -- C1 words that are no whole number of terms: 13
    ∷ record { input = "05000301000000\n" ++ "06\n"; expected = "rejected 13 term 0\n" }
    -- C2 a count above 8, a mark above 2, an unmarked node with a rule: 13
    ∷ record {
      input =
          "05000309000000" ++ "000100000000" ++ "000100000000" ++ "000100000000" ++ "000100000000" ++ "000100000000" ++ "000100000000"
          ++ "000100000000" ++ "000100000000" ++ "000100000000\n" ++ "06\n";
      expected = "rejected 13 term 0\n";
    }
    ∷ record { input = r7 ++ "05000100030007\n" ++ "06\n"; expected = "rejected 13 term 0\n" }
    ∷ record { input = r7 ++ "05000100000007\n" ++ "06\n"; expected = "rejected 13 term 0\n" }
    -- C3 the first term marked: 14
    ∷ record { input = r7 ++ "05000200010007\n" ++ "06\n"; expected = "rejected 14 term 0\n" }
    -- C4 a later term with no mark: 15
    ∷ record { input = r7 ++ first ++ first ++ "06\n"; expected = "rejected 15 term 1\n" }
    -- C5 marks of both directions in one term: 15
    ∷ record {
      input =
          r7 ++ "05000502000000" ++ "000100000000" ++ "000200000000\n" ++ "05000502000000" ++ "000200010007" ++ "000100020007\n" ++ "06\n";
      expected = "rejected 15 term 1\n";
    }
    -- C6 two marks of one direction side by side: 15; the same in two steps
    ∷ record { input = r7 ++ pair ++ "05000502000000" ++ "000200010007" ++ "000200010007\n" ++ "06\n"; expected = "rejected 15 term 1\n" }
    ∷ record {
      input =
          r7 ++ pair ++ "05000502000000" ++ "000200010007" ++ "000100000000\n" ++ "05000502000000" ++ "000200000000" ++ "000200010007\n" ++ "06\n";
      expected = "accepted 3\n";
    }
    -- C7 a mark inside a marked subterm: 15
    ∷ record { input = r7 ++ first ++ "05000301010007" ++ "000200010007\n" ++ "06\n"; expected = "rejected 15 term 1\n" }
    -- C8 the place of the first bad term
    ∷ record { input = table_lines ++ first ++ second ++ first ++ "06\n"; expected = "rejected 15 term 2\n" }
    -- C9 15 before 16 and 17: the second mark names an unlisted rule, and o1 is no instance of it
    ∷ record { input = r7 ++ pair ++ "05000502000000" ++ "000200010007" ++ "000100010008\n" ++ "06\n"; expected = "rejected 15 term 1\n" }
    -- C10 16 before 17: nothing of the step is right
    ∷ record { input = r7 ++ first ++ "05000401000000" ++ "000100010008\n" ++ "06\n"; expected = "rejected 16 term 1\n" }
    ∷ []

claim : map (λ r. output (bytes r.input)) rows ≡ map (λ r. bytes r.expected) rows
unfolding output bytes
claim = refl
