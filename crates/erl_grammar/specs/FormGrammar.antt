-- Which forms and modules are well formed: the grammar of the Erlang Reference Manual ("Modules", "Records", "Types and Function Specifications", "Functions") in the profile.
use Rattle.std.specs.Prelude.{◌≡◌, ℤ, List, [], ◌∷◌, ◌++◌, Option, Some, None, Bool, false, codes}
use Rattle.std.specs.List.{list_any}
use Rattle.std.specs.Str.{bytes_eq}
use Rattle.type_terms.specs.Keys.{Name}
use Rattle.erl_tree.specs.Lists.{Among}
use Rattle.erl_tree.specs.declared.token.Place.{Place}
use Rattle.erl_tree.specs.declared.token.Node.{Node}
use Rattle.erl_tree.specs.declared.token.Token.{Token}
use Rattle.erl_tree.specs.declared.token.Token.TheVariants as T
use Rattle.erl_tree.specs.declared.pattern.PatternKind.{PatternKind}
use Rattle.erl_tree.specs.declared.expr.ExprKind.{ExprKind}
use Rattle.erl_tree.specs.declared.expr.ItemKind.{ItemKind}
use Rattle.erl_tree.specs.declared.expr.ClauseKind.{ClauseKind}
use Rattle.erl_tree.specs.declared.type_expr.TypeKind.{TypeKind}
use Rattle.erl_tree.specs.declared.form.ExportKind.{ExportKind}
use Rattle.erl_tree.specs.declared.form.RecDefKind.{RecDefKind}
use Rattle.erl_tree.specs.declared.form.RecFieldKind.{RecFieldKind}
use Rattle.erl_tree.specs.declared.form.TypeDefKind.{TypeDefKind}
use Rattle.erl_tree.specs.declared.form.SpecKind.{SpecKind}
use Rattle.erl_tree.specs.declared.form.SpecClauseKind.{SpecClauseKind}
use Rattle.erl_tree.specs.declared.form.SkippedKind.{SkippedKind}
use Rattle.erl_tree.specs.declared.form.Function.{Function}
use Rattle.erl_tree.specs.declared.form.TreeForm.{TreeForm}
use Rattle.erl_tree.specs.declared.form.TreeForm.TheVariants as F
use Rattle.erl_tree.specs.declared.form.Module.{Module}
use Rattle.erl_grammar.specs.Grammar.{node, AreSeparators, IsArity, IsPattern, IsExpr, IsItem, IsWhen, clause_of}
use Rattle.erl_grammar.specs.TypeGrammar.{IsType, IsParameter}

-- ---- exports

-- the marks of names with their arities, three each, and one between two of them
abbrev pub HaveArityMarks : List (Name × ℤ) → List Place → Type 0
HaveArityMarks [] [] = Unit {0}
HaveArityMarks (f ∷ []) (n ∷ s ∷ a ∷ []) = Unit {0}
HaveArityMarks (f ∷ g ∷ gs) (n ∷ s ∷ a ∷ c ∷ ms) = HaveArityMarks (g ∷ gs) ms
HaveArityMarks _ _ = ⊥

-- `-export([f/1, ..]).`, `-export_type([t/1, ..]).`
pub data IsExport : Node ExportKind → Type 0 where
  export : (h w o b c d p : Place) (ms : List Place) (types : Bool) (names : List (Name × ℤ)) → HaveArityMarks names ms → IsExport (node h (h ∷ w ∷ o ∷ b ∷ (ms ++ c ∷ d ∷ p ∷ [])) (record { types = types; names = names }))

-- ---- records

-- a default with the mark of its `=`, or none
pub data IsDefault : Option (Node ExprKind) → List Place → Type 0 where
  no_default : IsDefault None []
  default : (m : Place) (e : Node ExprKind) → IsExpr 0 e → IsDefault (Some e) (m ∷ [])

-- a type with the mark of its `::`, or none
pub data IsDeclaredType : Option (Node TypeKind) → List Place → Type 0 where
  no_declared_type : IsDeclaredType None []
  annotation : (m : Place) (t : Node TypeKind) → IsType t → IsDeclaredType (Some t) (m ∷ [])

-- `field = E :: T`
pub data IsRecordField : Node RecFieldKind → Type 0 where
  record_field : (p : Place) (ds ts : List Place) (name : Name) (e : Option (Node ExprKind)) (t : Option (Node TypeKind)) → IsDefault e ds → IsDeclaredType t ts → IsRecordField (node p (p ∷ (ds ++ ts)) (record { name = name; default = e; ty = t }))

-- `-record(name, {field = E :: T, ..}).`
pub data IsRecordDefinition : Node RecDefKind → Type 0 where
  record_definition : (h w o n c b d e p : Place) (ms : List Place) (name : Name) (fields : List (Node RecFieldKind)) → AreSeparators fields ms → ((f : Node RecFieldKind) → Among f fields → IsRecordField f) → IsRecordDefinition (node h (h ∷ w ∷ o ∷ n ∷ c ∷ b ∷ (ms ++ d ∷ e ∷ p ∷ [])) (record { name = name; tag = name; fields = fields }))

-- ---- types

-- the marks of variables, and one between two of them
abbrev pub HaveVariableMarks : List Name → List Place → Type 0
HaveVariableMarks [] [] = Unit {0}
HaveVariableMarks (x ∷ []) (p ∷ []) = Unit {0}
HaveVariableMarks (x ∷ y ∷ ys) (p ∷ c ∷ ms) = HaveVariableMarks (y ∷ ys) ms
HaveVariableMarks _ _ = ⊥

-- `-type name(X, ..) :: T.`, `-opaque name(X, ..) :: T.`
pub data IsTypeDefinition : Node TypeDefKind → Type 0 where
  type_definition : (h w n o c m p : Place) (ms : List Place) (opaque : Bool) (name : Name) (params : List Name) (body : Node TypeKind) → HaveVariableMarks params ms → IsType body → IsTypeDefinition (node h (h ∷ w ∷ n ∷ o ∷ (ms ++ c ∷ m ∷ p ∷ [])) (record { opaque = opaque; name = name; params = params; body = body }))

-- ---- specs

-- the marks of bounds, two each, and one between two of them
abbrev pub HaveBoundMarks : List (Name × Node TypeKind) → List Place → Type 0
HaveBoundMarks [] _ = ⊥
HaveBoundMarks (b ∷ []) (x ∷ m ∷ []) = Unit {0}
HaveBoundMarks (b ∷ d ∷ ds) (x ∷ m ∷ c ∷ ms) = HaveBoundMarks (d ∷ ds) ms
HaveBoundMarks _ _ = ⊥

-- bounds with the mark of their `when`, or none: `when X :: T, ..`
pub data AreBounds : List (Name × Node TypeKind) → List Place → Type 0 where
  no_bounds : AreBounds [] []
  bounds : (w : Place) (ms : List Place) (bs : List (Name × Node TypeKind)) → HaveBoundMarks bs ms → ((b : Name × Node TypeKind) → Among b bs → IsType b.1) → AreBounds bs (w ∷ ms)

-- `(T, ..) -> T when X :: T, ..`
pub data IsSpecClause : Node SpecClauseKind → Type 0 where
  spec_clause : (o c a : Place) (ms bs : List Place) (params : List (Node TypeKind)) (result : Node TypeKind) (bounds : List (Name × Node TypeKind)) → IsArity params → AreSeparators params ms → ((t : Node TypeKind) → Among t params → IsParameter t) → IsType result → AreBounds bounds bs → IsSpecClause (node o (o ∷ (ms ++ c ∷ a ∷ bs)) (record { params = params; result = result; bounds = bounds }))

-- `-spec name(T, ..) -> T; (T, ..) -> T.`
pub data IsSpec : Node SpecKind → Type 0 where
  spec : (h w n p : Place) (ms : List Place) (name : Name) (c : Node SpecClauseKind) (cs : List (Node SpecClauseKind)) → AreSeparators (c ∷ cs) ms → ((d : Node SpecClauseKind) → Among d (c ∷ cs) → IsSpecClause d) → IsSpec (node h (h ∷ w ∷ n ∷ (ms ++ p ∷ [])) (record { name = name; clauses = c ∷ cs }))

-- ---- other attributes

-- the attributes that are read
abbrev pub read_attributes : List Name
read_attributes = codes "module" ∷ codes "export" ∷ codes "export_type" ∷ codes "record" ∷ codes "type" ∷ codes "opaque" ∷ codes "spec" ∷ []

-- the attributes of the preprocessor (Erlang Reference Manual, "Preprocessor" and "Features")
abbrev pub preprocessor_attributes : List Name
preprocessor_attributes = codes "define" ∷ codes "undef" ∷ codes "include" ∷ codes "include_lib" ∷ codes "ifdef" ∷ codes "ifndef" ∷ codes "else" ∷ codes "endif" ∷ codes "if" ∷ codes "elif" ∷ codes "error" ∷ codes "warning" ∷ codes "feature" ∷ []

-- whether a name is one of these
abbrev pub is_one_of : Name → List Name → Bool
is_one_of name names = list_any (λ known. bytes_eq name known) names

-- any token but a dot and the end of the text
abbrev pub IsInForm : Token → Type 0
IsInForm T.Dot = ⊥
IsInForm T.End = ⊥
IsInForm _ = Unit {0}

-- a place for each token
abbrev pub HaveMarkEach : List Token → List Place → Type 0
HaveMarkEach [] [] = Unit {0}
HaveMarkEach (t ∷ ts) (m ∷ ms) = HaveMarkEach ts ms
HaveMarkEach _ _ = ⊥

-- an attribute that means nothing here: none that is read, none of the preprocessor, no `import` and no `nominal`
pub data IsSkipped : Node SkippedKind → Type 0 where
  skipped : (h w p : Place) (ms : List Place) (name : Name) (tokens : List Token) → is_one_of name read_attributes ≡ false → is_one_of name preprocessor_attributes ≡ false → is_one_of name (codes "import" ∷ codes "nominal" ∷ []) ≡ false
      → HaveMarkEach tokens ms → ((t : Token) → Among t tokens → IsInForm t) → IsSkipped (node h (h ∷ w ∷ (ms ++ p ∷ [])) (record { name = name; tokens = tokens }))

-- ---- functions

-- `name(P, ..) when G -> I, ..`
pub data IsFunctionClause : Node ClauseKind → Type 0 where
  function_clause : (n o c a : Place) (ps : List (Node PatternKind)) (w : Option (Node (List (List (Node ExprKind))))) (ns ws ms : List Place) (i : Node ItemKind) (is : List (Node ItemKind))
      → IsArity ps → AreSeparators ps ns → ((p : Node PatternKind) → Among p ps → IsPattern p) → IsWhen w ws → AreSeparators (i ∷ is) ms → ((j : Node ItemKind) → Among j (i ∷ is) → IsItem j)
      → IsFunctionClause (node n (n ∷ o ∷ (ns ++ c ∷ (ws ++ a ∷ ms))) (clause_of ps w (i ∷ is)))

-- clauses of one name, and a dot
pub data IsFunction : Function → Type 0 where
  function : (name : Name) (p : Place) (ms : List Place) (c : Node ClauseKind) (cs : List (Node ClauseKind)) → AreSeparators (c ∷ cs) ms → ((d : Node ClauseKind) → Among d (c ∷ cs) → IsFunctionClause d) → IsFunction (record { name = name; place = c.place; marks = ms ++ p ∷ []; clauses = c ∷ cs })

-- ---- modules

pub data IsForm : TreeForm → Type 0 where
  export_form : (e : Node ExportKind) → IsExport e → IsForm (F.Export e)
  record_form : (r : Node RecDefKind) → IsRecordDefinition r → IsForm (F.RecDef r)
  type_form : (d : Node TypeDefKind) → IsTypeDefinition d → IsForm (F.TypeDef d)
  spec_form : (s : Node SpecKind) → IsSpec s → IsForm (F.Spec s)
  skipped_form : (s : Node SkippedKind) → IsSkipped s → IsForm (F.Skipped s)
  function_form : (f : Function) → IsFunction f → IsForm (F.Function f)

-- `-module(name).`, forms, and the end of the text
pub data IsModule : Module → Type 0 where
  module_of : (h w o n c d e : Place) (name : Name) (forms : List TreeForm) → ((f : TreeForm) → Among f forms → IsForm f) → IsModule (record { name = name; marks = h ∷ w ∷ o ∷ n ∷ c ∷ d ∷ e ∷ []; forms = forms })
