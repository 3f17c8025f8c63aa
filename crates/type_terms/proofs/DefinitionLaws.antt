-- A list of definitions by what is found of it.
use Rattle.std.proofs.Common.{◌≡◌, subst, ℕ, ◌<◌, List, Bool}
use Rattle.std.specs.Prelude.{Option, Some, None as Nothing, MatchOption}
use Rattle.type_terms.specs.declared.term.Def.{Def}
use Rattle.type_terms.specs.Definitions.{AreDefinitions, Reaches}
use Rattle.type_terms.specs.Openness.{OpenWhereSaid, SaysAll, names_by}
use Rattle.type_terms.specs.Paths.{IsPath}
use Rattle.type_terms.specs.Refusals.{AreWellMade}
use Rattle.type_terms.specs.Undefined.{undefined_among}
use Rattle.type_terms.proofs.OpennessLaws.{path-of, reaches-of}
use Rattle.type_terms.proofs.UndefinedMeaning.{among-none}

abbrev pub LeastOnCycle : List (List ℕ) → Option ℕ → Type 0
LeastOnCycle graph answer = MatchOption answer ((n : ℕ) → IsPath graph n n → ⊥) (λ n. IsPath graph n n × ((m : ℕ) → m < n → IsPath graph m m → ⊥))

abbrev pub LeastReaching : List Def → Option ℕ → Type 0
LeastReaching defs answer = MatchOption answer ((n : ℕ) → Reaches defs n n → ⊥) (λ n. Reaches defs n n × ((m : ℕ) → m < n → Reaches defs m m → ⊥))

pub least-reaching : (defs : List Def) (table : List (List Bool)) (graph : List (List ℕ)) (answer : Option ℕ) → graph ≡ names_by table defs → OpenWhereSaid defs table → SaysAll defs table → LeastOnCycle graph answer → LeastReaching defs answer
least-reaching defs table graph answer e sound closed h = go answer (subst (λ g. LeastOnCycle g answer) e h)
  where
    go : (a : Option ℕ) → LeastOnCycle (names_by table defs) a → LeastReaching defs a
    go Nothing k = λ n r. k n (path-of defs table sound closed n n r)
    go (Some n) k = (reaches-of defs table sound closed n n k.0, λ m l r. k.1 m l (path-of defs table sound closed m m r))

pub made-definitions : (defs : List Def) → AreWellMade defs → undefined_among defs ≡ Nothing → ((n : ℕ) → Reaches defs n n → ⊥) → AreDefinitions defs
made-definitions defs made e none = record {
  contractive = none;
  names_defined = among-none defs e;
  own_variables = λ def k. (made def k).0;
  fields_ascend = λ def k. (made def k).1;
}

pub made-of-definitions : (defs : List Def) → AreDefinitions defs → AreWellMade defs
made-of-definitions defs are = λ def k. (are.own_variables def k, are.fields_ascend def k)
