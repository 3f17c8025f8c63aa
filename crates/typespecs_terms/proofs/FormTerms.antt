-- The terms of type expressions by their form, as the functions that read them tell them.
use Rattle.std.proofs.lemmas.Bool.Decides.{nat_tests}
use Rattle.std.proofs.Common.{ℕ, suc, arith, ◌≡◌, sym, ap, ◌∙◌, Result, Ok, Err, IfOk, List, [], ◌∷◌, map, cond, Option, Some, None, option_map, false, length, nat_eq}
use Rattle.type_terms.specs.Keys.{Name}
use Rattle.type_terms.specs.declared.term.Term.{Term, Name as NameTerm}
use Rattle.erl_tree.specs.declared.token.Node.{Node}
use Rattle.erl_tree.specs.declared.type_expr.TypeKind.{TypeKind}
use Rattle.erl_tree.specs.declared.type_expr.TypeKind.TheVariants as Y
use Rattle.erl_runs.specs.Specs.{and_then, all_present}
use Rattle.typespecs_rules.specs.Declarations.{Declarations, record_number}
use Rattle.erl_tree.specs.declared.type_expr.MapPart.{MapPart, out-MapPart, roll-out-MapPart}
use Rattle.typespecs_rules.specs.TypeTerms.{RecordTuple, MapEntry, type_kind_term, map_part_entry, tuple_term, with_fields, named_term, entry_of, map_key}
use Rattle.typespecs_rules.proofs.TypeRuleLaws.{type_term-Use_used, type_term-Use_prefixed, type_term-Rec_plain, type_term-Rec_with, entry-of}
use Rattle.typespecs_names.specs.declared.numbers.DeclaredNumbers.{DeclaredNumbers}
use Rattle.typespecs_names.specs.Numbers.{KnowsNumbers}
use Rattle.typespecs_terms.specs.Parts.{of_node, of_part, of_field, use_of}

not-zero : (n : ℕ) → nat_eq (suc n) 0 ≡ false
not-zero n = grind (arith, nat_tests)

module _ (declared : Declarations) (tuples : Name → Option RecordTuple) (variables : Name → Option Term) where
  abbrev pub kind_term : TypeKind → Option Term
  kind_term k = type_kind_term declared tuples variables k

  -- a use with a prefix or without one
  pub use-is : (prefix : Option Name) (name : Name) (args : List (Node TypeKind)) → kind_term (Y.Use prefix name args) ≡ and_then (all_present (map (of_node declared tuples variables) args)) (use_of declared prefix name)
  use-is None name args = type_term-Use_used declared tuples variables name args
  use-is (Some prefix) name args = type_term-Use_prefixed declared tuples variables prefix name args

  -- a record type with fields in the places of its own, or without them
  pub record-is : (name tag : Name) (fields : List (Node (Name × Node TypeKind))) → kind_term (Y.Rec name tag fields) ≡ cond (nat_eq (length fields) 0) (option_map (λ n. NameTerm n []) (record_number declared name)) (and_then (all_present (map (of_field declared tuples variables) fields)) (λ own. option_map (λ r. tuple_term (with_fields own r)) (tuples name)))
  record-is name tag [] = type_term-Rec_plain declared tuples variables name tag
  record-is name tag (f ∷ fs) =
      type_term-Rec_with declared tuples variables name tag f fs
      ∙ sym (ap (λ b. cond b (option_map (λ n. NameTerm n []) (record_number declared name)) (and_then (all_present (map (of_field declared tuples variables) (f ∷ fs))) (λ own. option_map (λ r. tuple_term (with_fields own r)) (tuples name)))) (not-zero (length fs)))

  -- a part of a map type, and a field of a record type
  pub part-is : (p : MapPart) (q : Node MapPart) (k v : TypeKind) (value : Option Term) (entry : Option MapEntry) → p ≡ q.kind → k ≡ (out-MapPart p).key.kind → v ≡ (out-MapPart p).value.kind → value ≡ kind_term v → entry ≡ and_then value (λ own. entry_of (map_key (out-MapPart p).required k) (out-MapPart p).required own) → entry ≡ of_part declared tuples variables q
  part-is p q k v value entry p-is k-is v-is value-is e =
      e ∙ (λ i. and_then ((value-is ∙ ap kind_term v-is) i) (λ own. entry_of (map_key (out-MapPart p).required (k-is i)) (out-MapPart p).required own))
      ∙ sym (ap (map_part_entry declared tuples variables) (sym p-is) ∙ ap (map_part_entry declared tuples variables) (sym (roll-out-MapPart p)) ∙ entry-of declared tuples variables (out-MapPart p).key (out-MapPart p).required (out-MapPart p).value)

  pub field-is : (g : Name × Node TypeKind) (f : Node (Name × Node TypeKind)) (k : TypeKind) (t : Option Term) (item : Option (Name × Term)) → g ≡ f.kind → k ≡ g.1.kind → t ≡ kind_term k → item ≡ named_term g.0 t → item ≡ of_field declared tuples variables f
  field-is g f k t item g-is k-is t-is e =
      e ∙ ap (named_term g.0) (t-is ∙ ap kind_term k-is) ∙ ap (λ (h : Name × Node TypeKind). named_term h.0 (kind_term h.1.kind)) g-is

-- with numbers of definitions, for whatever is declared with these numbers
module _ (numbers : DeclaredNumbers) (tuples : Name → Option RecordTuple) (variables : Name → Option Term) where
  abbrev pub Reads : TypeKind → Option Term → Type 0
  Reads kind term = (d : Declarations) → KnowsNumbers numbers d → term ≡ type_kind_term d tuples variables kind

  abbrev pub IsTold : {E : Type 0} → TypeKind → Result (Option Term) E → Type 0
  IsTold kind r = IfOk r (λ term. (d : Declarations) → KnowsNumbers numbers d → term ≡ type_kind_term d tuples variables kind)

  pub reads-as : (kind shape : TypeKind) (x y : Option Term) → kind ≡ shape → x ≡ y → ((d : Declarations) → type_kind_term d tuples variables shape ≡ y) → Reads kind x
  reads-as kind shape x y is e law d k = e ∙ sym (law d) ∙ ap (type_kind_term d tuples variables) (sym is)

  -- a result of this form, where a type expression of the form has the term
  pub told : {E : Type 0} (kind shape : TypeKind) (r : Result (Option Term) E) (x : Option Term) → kind ≡ shape → IfOk r (λ t. t ≡ x) → Reads shape x → IsTold kind r
  told kind shape (Ok t) x is h e = λ d k. h ∙ e d k ∙ ap (type_kind_term d tuples variables) (sym is)
  told kind shape (Err e) x is h reads = tt

  -- the same where the result depends on what is declared
  pub told-by : {E : Type 0} (kind shape : TypeKind) (r : Result (Option Term) E) (x : Declarations → Option Term) → kind ≡ shape → IfOk r (λ t. (d : Declarations) → KnowsNumbers numbers d → t ≡ x d) → ((d : Declarations) → KnowsNumbers numbers d → x d ≡ type_kind_term d tuples variables shape) → IsTold kind r
  told-by kind shape (Ok t) x is h e = λ d k. h d k ∙ e d k ∙ ap (type_kind_term d tuples variables) (sym is)
  told-by kind shape (Err e) x is h reads = tt
