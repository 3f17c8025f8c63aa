-- Examples of runs: strings and characters. Written by expressions.escript.
use Rattle.std.specs.Prelude.{◌≡◌, List, [], ◌∷◌, codes}
use Rattle.erl_tree.specs.declared.form.Function.{Function}
use Rattle.erl_tree.specs.declared.form.RecDefKind.{RecDefKind}
use Rattle.erl_tree.specs.declared.expr.BinaryOp.TheVariants as B
use Rattle.erl_runs.specs.Value.{came}
use Rattle.examples_runs.specs.Trees as T
use Rattle.examples_runs.specs.Patterns as P
use Rattle.examples_runs.specs.Outcomes as V
use Rattle.examples_runs.specs.Outcomes.{outcome_of}

abbrev pub records : List RecDefKind
records = []

abbrev pub functions : List Function
functions = []

-- "abc"
abbrev pub strings_1 : Type 0
strings_1 = outcome_of records functions (T.text (codes "abc")) ≡ came (V.list (V.int 97 ∷ V.int 98 ∷ V.int 99 ∷ []))

-- ""
abbrev pub strings_2 : Type 0
strings_2 = outcome_of records functions (T.text []) ≡ came (V.list [])

-- "a\n\"\\"
abbrev pub strings_3 : Type 0
strings_3 = outcome_of records functions (T.text (97 ∷ 10 ∷ 34 ∷ 92 ∷ [])) ≡ came (V.list (V.int 97 ∷ V.int 10 ∷ V.int 34 ∷ V.int 92 ∷ []))

-- "é€"
abbrev pub strings_4 : Type 0
strings_4 = outcome_of records functions (T.text (195 ∷ 169 ∷ 226 ∷ 130 ∷ 172 ∷ [])) ≡ came (V.list (V.int 233 ∷ V.int 8364 ∷ []))

-- $a
abbrev pub strings_5 : Type 0
strings_5 = outcome_of records functions (T.char 97) ≡ came (V.int 97)

-- $\n
abbrev pub strings_6 : Type 0
strings_6 = outcome_of records functions (T.char 10) ≡ came (V.int 10)

-- $é
abbrev pub strings_7 : Type 0
strings_7 = outcome_of records functions (T.char 233) ≡ came (V.int 233)

-- $a + 1
abbrev pub strings_8 : Type 0
strings_8 = outcome_of records functions (T.binary B.Add (T.char 97) (T.int 1)) ≡ came (V.int 98)

-- [$a, $b]
abbrev pub strings_9 : Type 0
strings_9 = outcome_of records functions (T.list (T.char 97 ∷ T.char 98 ∷ [])) ≡ came (V.list (V.int 97 ∷ V.int 98 ∷ []))

-- [$a | "bc"] =:= "abc"
abbrev pub strings_10 : Type 0
strings_10 = outcome_of records functions (T.binary B.ExactEq (T.list_onto (T.char 97 ∷ []) (T.text (codes "bc"))) (T.text (codes "abc"))) ≡ came (V.atom (codes "true"))

-- case "abc" of [$a | T] -> T end
abbrev pub strings_11 : Type 0
strings_11 = outcome_of records functions (T.case_of (T.text (codes "abc")) (T.clause (P.list_onto (P.char 97 ∷ []) (P.var (codes "T")) ∷ []) (T.value (T.var (codes "T")) ∷ []) ∷ [])) ≡ came (V.list (V.int 98 ∷ V.int 99 ∷ []))

-- case "abc" of "abd" -> 1; "abc" -> 2 end
abbrev pub strings_12 : Type 0
strings_12 = outcome_of records functions (T.case_of (T.text (codes "abc")) (T.clause (P.text (codes "abd") ∷ []) (T.value (T.int 1) ∷ []) ∷ T.clause (P.text (codes "abc") ∷ []) (T.value (T.int 2) ∷ []) ∷ [])) ≡ came (V.int 2)

-- case $a of 97 -> yes; _ -> no end
abbrev pub strings_13 : Type 0
strings_13 = outcome_of records functions (T.case_of (T.char 97) (T.clause (P.int 97 ∷ []) (T.value (T.atom (codes "yes")) ∷ []) ∷ T.clause (P.var (codes "_") ∷ []) (T.value (T.atom (codes "no")) ∷ []) ∷ [])) ≡ came (V.atom (codes "yes"))

-- case 97 of $b -> no; $a -> yes end
abbrev pub strings_14 : Type 0
strings_14 = outcome_of records functions (T.case_of (T.int 97) (T.clause (P.char 98 ∷ []) (T.value (T.atom (codes "no")) ∷ []) ∷ T.clause (P.char 97 ∷ []) (T.value (T.atom (codes "yes")) ∷ []) ∷ [])) ≡ came (V.atom (codes "yes"))

-- all of them
abbrev pub Strings : Type 0
Strings = strings_1 × strings_2 × strings_3 × strings_4 × strings_5 × strings_6 × strings_7 × strings_8 × strings_9 × strings_10 × strings_11 × strings_12 × strings_13 × strings_14
