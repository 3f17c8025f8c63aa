-- The graphs in which uses lead from declaration to declaration.
use Rattle.std.specs.Prelude.{◌≡◌, ℕ, List, map}
use Rattle.erl_tree.specs.declared.token.Node.{Node}
use Rattle.erl_tree.specs.declared.type_expr.TypeKind.{TypeKind}
use Rattle.typespecs_rules.specs.Declarations.{Declarations}
use Rattle.typespecs_rules.specs.TypeParts.{from_each}
use Rattle.typespecs_rules.specs.RegularUse.{mentioned_by, expanded_by, mention_graph, expansion_graph}
use Rattle.typespecs_names.specs.Numbers.{KnowsNumbers}
use Rattle.typespecs_cycles.specs.declared.edges.Edges.{Edges}
use Rattle.typespecs_cycles.specs.declared.edges.Edges.TheVariants.{Mentions, Expansions}
use Rattle.typespecs_cycles.specs.declared.uses.Uses.{Uses}
use Rattle.typespecs_cycles.specs.DeclarationParts.{Inner}

-- where a type expression leads
abbrev pub edges_of : Edges → Declarations → Node TypeKind → List ℕ
edges_of Mentions declared t = mentioned_by declared t
edges_of Expansions declared t = expanded_by declared t

-- where each of some declarations leads
abbrev pub graph_of : Edges → Declarations → List Inner → List (List ℕ)
graph_of edges declared ds = map (λ d. from_each (edges_of edges declared) d.1) ds

-- uses are looked at by the numbers and the graphs of these declarations
abbrev pub AreUsesOf : Uses → Declarations → Type 0
AreUsesOf u declared = KnowsNumbers u.numbers.now declared × (u.mentions.graph.items ≡ mention_graph declared) × (u.expansions.graph.items ≡ expansion_graph declared)
