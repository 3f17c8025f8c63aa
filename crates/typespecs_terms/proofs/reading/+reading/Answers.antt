use Rattle.std.proofs.Common.{pos, neg_ℤ, ◌∙◌, refl, sym, ap, map, cond, nat_eq, option_map, Some, None, [], ◌∷◌}
use Rattle.erl_runs.specs.Names.{is_wildcard}
use Rattle.erl_runs.specs.Specs.{and_then, all_present, one_integer}
use Rattle.erl_tree.specs.declared.type_expr.TypeKind.TheVariants as Y
use Rattle.type_terms.specs.declared.term.Term.{Any, AtomLit, Nil, AnyFun, Or, Fun, Tuple, Name as NameTerm}
use Rattle.typespecs_rules.specs.BuiltInTypes.{list_of, nonempty_list_of}
use Rattle.typespecs_rules.specs.Declarations.{record_number}
use Rattle.typespecs_rules.specs.TypeTerms.{map_term, range_term, type_kind_term, tuple_term, with_fields}
use Rattle.typespecs_rules.proofs.TypeRuleLaws.{type_term-Atom, type_term-Int, type_term-NegInt, type_term-Char, type_term-Var, type_term-Paren, type_term-Or, type_term-Named, type_term-Range, type_term-Nil, type_term-ListOf, type_term-NonEmpty, type_term-Tuple, type_term-Map, type_term-FunAll, type_term-Fun}
use Rattle.typespecs_terms.specs.Tables.{terms_in, tuples_in}
use Rattle.typespecs_terms.specs.Entries.{entry_as}
use Rattle.typespecs_terms.specs.Parts.{of_node, of_part, of_field, use_of}
use Rattle.typespecs_terms.proofs.Collected.{collected, added-mapped}
use Rattle.typespecs_terms.proofs.FormTerms.{use-is, record-is, part-is, field-is, told, told-by, reads-as}
use Rattle.typespecs_terms.proofs.reading.+reading.Goals as goal

pub read_kind-returns-in-Atom : goal.read_kind-returns-in-Atom
read_kind-returns-in-Atom t c =
    told c.args.reading.now.numbers.now (tuples_in c.args.reading.now.tuples.now) (terms_in c.args.reading.now.variables.now) c.args.kind.now (Y.Atom c.in-Atom.name) c.atom.result (Some (AtomLit c.in-Atom.name)) c.in-Atom.is c.atom.ensures (λ d k. sym (type_term-Atom d (tuples_in c.args.reading.now.tuples.now) (terms_in c.args.reading.now.variables.now) c.in-Atom.name))

pub read_kind-returns-in-Int : goal.read_kind-returns-in-Int
read_kind-returns-in-Int t c =
    reads-as c.args.reading.now.numbers.now (tuples_in c.args.reading.now.tuples.now) (terms_in c.args.reading.now.variables.now) c.args.kind.now (Y.Int c.in-Int.number) c.integer.result (Some (one_integer c.in-Int.number)) c.in-Int.is c.integer.ensures (λ d. type_term-Int d (tuples_in c.args.reading.now.tuples.now) (terms_in c.args.reading.now.variables.now) c.in-Int.number)

pub read_kind-returns-in-NegInt : goal.read_kind-returns-in-NegInt
read_kind-returns-in-NegInt t c =
    told c.args.reading.now.numbers.now (tuples_in c.args.reading.now.tuples.now) (terms_in c.args.reading.now.variables.now) c.args.kind.now (Y.NegInt c.in-NegInt.number) c.negative_integer.result (Some (one_integer (neg_ℤ c.in-NegInt.number))) c.in-NegInt.is c.negative_integer.ensures (λ d k. sym (type_term-NegInt d (tuples_in c.args.reading.now.tuples.now) (terms_in c.args.reading.now.variables.now) c.in-NegInt.number))

pub read_kind-returns-in-Char : goal.read_kind-returns-in-Char
read_kind-returns-in-Char t c =
    reads-as c.args.reading.now.numbers.now (tuples_in c.args.reading.now.tuples.now) (terms_in c.args.reading.now.variables.now) c.args.kind.now (Y.Char c.in-Char.code) c.character.result (Some (one_integer (pos c.in-Char.code))) c.in-Char.is c.character.ensures (λ d. type_term-Char d (tuples_in c.args.reading.now.tuples.now) (terms_in c.args.reading.now.variables.now) c.in-Char.code)

pub read_kind-returns-in-Var : goal.read_kind-returns-in-Var
read_kind-returns-in-Var t c =
    told c.args.reading.now.numbers.now (tuples_in c.args.reading.now.tuples.now) (terms_in c.args.reading.now.variables.now) c.args.kind.now (Y.Var c.in-Var.name) c.variable.result (cond (is_wildcard c.in-Var.name) (Some Any) ((terms_in c.args.reading.now.variables.now) c.in-Var.name)) c.in-Var.is c.variable.ensures (λ d k. sym (type_term-Var d (tuples_in c.args.reading.now.tuples.now) (terms_in c.args.reading.now.variables.now) c.in-Var.name))

pub read_kind-returns-in-Paren : goal.read_kind-returns-in-Paren
read_kind-returns-in-Paren t c =
    told-by c.args.reading.now.numbers.now (tuples_in c.args.reading.now.tuples.now) (terms_in c.args.reading.now.variables.now) c.args.kind.now (Y.Paren c.in-Paren.inner) c.read_kind.result (λ d. type_kind_term d (tuples_in c.args.reading.now.tuples.now) (terms_in c.args.reading.now.variables.now) c.get.result.now) c.in-Paren.is c.read_kind.ensures (λ d k. ap (type_kind_term d (tuples_in c.args.reading.now.tuples.now) (terms_in c.args.reading.now.variables.now)) c.get.ensures ∙ sym (type_term-Paren d (tuples_in c.args.reading.now.tuples.now) (terms_in c.args.reading.now.variables.now) c.in-Paren.inner))

pub read_kind-returns-in-Named : goal.read_kind-returns-in-Named
read_kind-returns-in-Named t c =
    told-by c.args.reading.now.numbers.now (tuples_in c.args.reading.now.tuples.now) (terms_in c.args.reading.now.variables.now) c.args.kind.now (Y.Named c.in-Named.field-0 c.in-Named.inner) c.read_kind-in-Named.result (λ d. type_kind_term d (tuples_in c.args.reading.now.tuples.now) (terms_in c.args.reading.now.variables.now) c.get-in-Named.result.now) c.in-Named.is c.read_kind-in-Named.ensures (λ d k. ap (type_kind_term d (tuples_in c.args.reading.now.tuples.now) (terms_in c.args.reading.now.variables.now)) c.get-in-Named.ensures ∙ sym (type_term-Named d (tuples_in c.args.reading.now.tuples.now) (terms_in c.args.reading.now.variables.now) c.in-Named.field-0 c.in-Named.inner))

pub read_kind-returns-in_ok-right-in-Or : goal.read_kind-returns-in_ok-right-in-Or
read_kind-returns-in_ok-right-in-Or t c =
    told c.args.reading.now.numbers.now (tuples_in c.args.reading.now.tuples.now) (terms_in c.args.reading.now.variables.now) c.args.kind.now (Y.Or c.in-Or.left c.in-Or.right) c.union_of.result (and_then c.in_ok-left-in-Or.left (λ a. and_then c.in_ok-right-in-Or.right (λ b. Some (Or (a ∷ b ∷ []))))) c.in-Or.is c.union_of.ensures
    (λ d k. (λ i. and_then ((c.in_ok-left-in-Or.ensures d k ∙ ap (type_kind_term d (tuples_in c.args.reading.now.tuples.now) (terms_in c.args.reading.now.variables.now)) c.get-in-Or.ensures) i) (λ a. and_then ((c.in_ok-right-in-Or.ensures d k ∙ ap (type_kind_term d (tuples_in c.args.reading.now.tuples.now) (terms_in c.args.reading.now.variables.now)) c.get-in-Or-2.ensures) i) (λ b. Some (Or (a ∷ b ∷ []))))) ∙ sym (type_term-Or d (tuples_in c.args.reading.now.tuples.now) (terms_in c.args.reading.now.variables.now) c.in-Or.left c.in-Or.right))

pub read_kind-returns-in-Range : goal.read_kind-returns-in-Range
read_kind-returns-in-Range t c =
    told c.args.reading.now.numbers.now (tuples_in c.args.reading.now.tuples.now) (terms_in c.args.reading.now.variables.now) c.args.kind.now (Y.Range c.in-Range.low c.in-Range.high) c.range_type.result (range_term c.in-Range.low c.in-Range.high) c.in-Range.is c.range_type.ensures (λ d k. sym (type_term-Range d (tuples_in c.args.reading.now.tuples.now) (terms_in c.args.reading.now.variables.now) c.in-Range.low c.in-Range.high))

pub read_kind-returns-in_ok-args-in-Use : goal.read_kind-returns-in_ok-args-in-Use
read_kind-returns-in_ok-args-in-Use t c =
    told-by c.args.reading.now.numbers.now (tuples_in c.args.reading.now.tuples.now) (terms_in c.args.reading.now.variables.now) c.args.kind.now (Y.Use c.in-Use.prefix c.in-Use.name c.in-Use.args) c.used.result (λ d. and_then c.in_ok-args-in-Use.args (use_of d c.in-Use.prefix c.in-Use.name)) c.in-Use.is c.used.ensures
    (λ d k. ap (λ own. and_then own (use_of d c.in-Use.prefix c.in-Use.name)) (c.in_ok-args-in-Use.ensures d k ∙ ap (λ ts. all_present (map (of_node d (tuples_in c.args.reading.now.tuples.now) (terms_in c.args.reading.now.variables.now)) ts)) c.as_slice.ensures) ∙ sym (use-is d (tuples_in c.args.reading.now.tuples.now) (terms_in c.args.reading.now.variables.now) c.in-Use.prefix c.in-Use.name c.in-Use.args))

pub read_kind-returns-in-Nil : goal.read_kind-returns-in-Nil
read_kind-returns-in-Nil t c =
    reads-as c.args.reading.now.numbers.now (tuples_in c.args.reading.now.tuples.now) (terms_in c.args.reading.now.variables.now) c.args.kind.now Y.Nil (Some Nil) (Some Nil) c.in-Nil.is refl (λ d. type_term-Nil d (tuples_in c.args.reading.now.tuples.now) (terms_in c.args.reading.now.variables.now))

pub read_kind-returns-in-FunAll : goal.read_kind-returns-in-FunAll
read_kind-returns-in-FunAll t c =
    reads-as c.args.reading.now.numbers.now (tuples_in c.args.reading.now.tuples.now) (terms_in c.args.reading.now.variables.now) c.args.kind.now Y.FunAll (Some (AnyFun None)) (Some (AnyFun None)) c.in-FunAll.is refl (λ d. type_term-FunAll d (tuples_in c.args.reading.now.tuples.now) (terms_in c.args.reading.now.variables.now))

pub read_kind-returns-in_ok-element-in-ListOf : goal.read_kind-returns-in_ok-element-in-ListOf
read_kind-returns-in_ok-element-in-ListOf t c =
    told c.args.reading.now.numbers.now (tuples_in c.args.reading.now.tuples.now) (terms_in c.args.reading.now.variables.now) c.args.kind.now (Y.ListOf c.in-ListOf.element) c.list_type.result (option_map list_of c.in_ok-element-in-ListOf.element) c.in-ListOf.is c.list_type.ensures
    (λ d k. ap (option_map list_of) (c.in_ok-element-in-ListOf.ensures d k ∙ ap (type_kind_term d (tuples_in c.args.reading.now.tuples.now) (terms_in c.args.reading.now.variables.now)) c.get-in-ListOf.ensures) ∙ sym (type_term-ListOf d (tuples_in c.args.reading.now.tuples.now) (terms_in c.args.reading.now.variables.now) c.in-ListOf.element))

pub read_kind-returns-in_ok-element-in-NonEmpty : goal.read_kind-returns-in_ok-element-in-NonEmpty
read_kind-returns-in_ok-element-in-NonEmpty t c =
    told c.args.reading.now.numbers.now (tuples_in c.args.reading.now.tuples.now) (terms_in c.args.reading.now.variables.now) c.args.kind.now (Y.NonEmpty c.in-NonEmpty.element) c.nonempty_list_type.result (option_map nonempty_list_of c.in_ok-element-in-NonEmpty.element) c.in-NonEmpty.is c.nonempty_list_type.ensures
    (λ d k. ap (option_map nonempty_list_of) (c.in_ok-element-in-NonEmpty.ensures d k ∙ ap (type_kind_term d (tuples_in c.args.reading.now.tuples.now) (terms_in c.args.reading.now.variables.now)) c.get-in-NonEmpty.ensures) ∙ sym (type_term-NonEmpty d (tuples_in c.args.reading.now.tuples.now) (terms_in c.args.reading.now.variables.now) c.in-NonEmpty.element))

pub read_kind-returns-in_ok-parts-in-Tuple : goal.read_kind-returns-in_ok-parts-in-Tuple
read_kind-returns-in_ok-parts-in-Tuple t c = λ d k.
    c.tuple_type.ensures ∙ ap (option_map (λ own. Tuple own)) (c.in_ok-parts-in-Tuple.ensures d k ∙ ap (λ ts. all_present (map (of_node d (tuples_in c.args.reading.now.tuples.now) (terms_in c.args.reading.now.variables.now)) ts)) c.as_slice-in-Tuple.ensures) ∙ sym (type_term-Tuple d (tuples_in c.args.reading.now.tuples.now) (terms_in c.args.reading.now.variables.now) c.in-Tuple.parts) ∙ ap (type_kind_term d (tuples_in c.args.reading.now.tuples.now) (terms_in c.args.reading.now.variables.now)) (sym c.in-Tuple.is)

pub read_kind-returns-in_ok-entries-in-Map : goal.read_kind-returns-in_ok-entries-in-Map
read_kind-returns-in_ok-entries-in-Map t c =
    told c.args.reading.now.numbers.now (tuples_in c.args.reading.now.tuples.now) (terms_in c.args.reading.now.variables.now) c.args.kind.now (Y.Map c.in-Map.parts) c.map_type.result (option_map map_term (option_map (map entry_as) c.in_ok-entries-in-Map.entries)) c.in-Map.is c.map_type.ensures
    (λ d k. ap (option_map map_term) (c.in_ok-entries-in-Map.ensures d k ∙ ap (λ ps. all_present (map (of_part d (tuples_in c.args.reading.now.tuples.now) (terms_in c.args.reading.now.variables.now)) ps)) c.as_slice-in-Map.ensures) ∙ sym (type_term-Map d (tuples_in c.args.reading.now.tuples.now) (terms_in c.args.reading.now.variables.now) c.in-Map.parts))

pub read_kind-returns-in_ok-given-in-Fun : goal.read_kind-returns-in_ok-given-in-Fun
read_kind-returns-in_ok-given-in-Fun t c =
    told c.args.reading.now.numbers.now (tuples_in c.args.reading.now.tuples.now) (terms_in c.args.reading.now.variables.now) c.args.kind.now (Y.Fun c.in-Fun.params c.in-Fun.given) c.fun_type.result (and_then c.in_ok-params-in-Fun.params (λ own. option_map (λ r. Fun own r) c.in_ok-given-in-Fun.given)) c.in-Fun.is c.fun_type.ensures
    (λ d k. (λ i. and_then ((c.in_ok-params-in-Fun.ensures d k ∙ ap (λ ts. all_present (map (of_node d (tuples_in c.args.reading.now.tuples.now) (terms_in c.args.reading.now.variables.now)) ts)) c.as_slice-in-Fun.ensures) i) (λ own. option_map (λ r. Fun own r) ((c.in_ok-given-in-Fun.ensures d k ∙ ap (type_kind_term d (tuples_in c.args.reading.now.tuples.now) (terms_in c.args.reading.now.variables.now)) c.get-in-Fun.ensures) i))) ∙ sym (type_term-Fun d (tuples_in c.args.reading.now.tuples.now) (terms_in c.args.reading.now.variables.now) c.in-Fun.params c.in-Fun.given))

pub read_kind-returns-in_ok-given-in-Rec : goal.read_kind-returns-in_ok-given-in-Rec
read_kind-returns-in_ok-given-in-Rec t c =
    told-by c.args.reading.now.numbers.now (tuples_in c.args.reading.now.tuples.now) (terms_in c.args.reading.now.variables.now) c.args.kind.now (Y.Rec c.in-Rec.name c.in-Rec.tag c.in-Rec.fields) c.used_record.result (λ d. cond (nat_eq c.len.result 0) (option_map (λ n. NameTerm n []) (record_number d c.in-Rec.name)) (and_then c.in_ok-given-in-Rec.given (λ own. option_map (λ r. tuple_term (with_fields own r)) ((tuples_in c.args.reading.now.tuples.now) c.in-Rec.name)))) c.in-Rec.is c.used_record.ensures
    (λ d k. (λ i. cond (nat_eq (c.len.ensures i) 0) (option_map (λ n. NameTerm n []) (record_number d c.in-Rec.name)) (and_then ((c.in_ok-given-in-Rec.ensures d k ∙ ap (λ fs. all_present (map (of_field d (tuples_in c.args.reading.now.tuples.now) (terms_in c.args.reading.now.variables.now)) fs)) c.as_slice-in-Rec.ensures) i) (λ own. option_map (λ r. tuple_term (with_fields own r)) ((tuples_in c.args.reading.now.tuples.now) c.in-Rec.name)))) ∙ sym (record-is d (tuples_in c.args.reading.now.tuples.now) (terms_in c.args.reading.now.variables.now) c.in-Rec.name c.in-Rec.tag c.in-Rec.fields))

pub read_each-loop-one-preserved : goal.read_each-loop-one-preserved
read_each-loop-one-preserved t c = λ d k.
    c.in_ok-terms.ensures
    ∙ collected (of_node d (tuples_in c.args.reading.now.tuples.now) (terms_in c.args.reading.now.variables.now)) c.args.types.now c.loop-one.one-index c.one-item.result c.loop-one.terms c.in_ok-term.term c.loop-one-test.true c.one-item.is (c.loop-one.invariant d k)
    (c.in_ok-term.ensures d k ∙ ap (type_kind_term d (tuples_in c.args.reading.now.tuples.now) (terms_in c.args.reading.now.variables.now)) c.get.ensures)

pub read_parts-loop-part-preserved : goal.read_parts-loop-part-preserved
read_parts-loop-part-preserved t c = λ d k.
    ap (option_map (map entry_as)) c.in_ok-entries.ensures
    ∙ added-mapped entry_as c.loop-part.entries c.in_ok-entry.entry
    ∙ collected (of_part d (tuples_in c.args.reading.now.tuples.now) (terms_in c.args.reading.now.variables.now)) c.args.parts.now c.loop-part.part-index c.part-item.result (option_map (map entry_as) c.loop-part.entries) (option_map entry_as c.in_ok-entry.entry) c.loop-part-test.true c.part-item.is (c.loop-part.invariant d k)
    (part-is d (tuples_in c.args.reading.now.tuples.now) (terms_in c.args.reading.now.variables.now) c.get-part.result.now c.part-item.result c.get-in-loop-part.result.now c.get.result.now c.in_ok-value.value (option_map entry_as c.in_ok-entry.entry) c.get-part.ensures c.get-in-loop-part.ensures c.get.ensures (c.in_ok-value.ensures d k) c.in_ok-entry.ensures)

pub read_fields-loop-field-preserved : goal.read_fields-loop-field-preserved
read_fields-loop-field-preserved t c = λ d k.
    c.in_ok-terms.ensures
    ∙ collected (of_field d (tuples_in c.args.reading.now.tuples.now) (terms_in c.args.reading.now.variables.now)) c.args.fields.now c.loop-field.field-index c.field-item.result c.loop-field.terms c.in_ok-term-2.term c.loop-field-test.true c.field-item.is (c.loop-field.invariant d k)
    (field-is d (tuples_in c.args.reading.now.tuples.now) (terms_in c.args.reading.now.variables.now) c.get.result.now c.field-item.result c.get-in-loop-field.result.now c.in_ok-term.term c.in_ok-term-2.term c.get.ensures c.get-in-loop-field.ensures (c.in_ok-term.ensures d k) c.in_ok-term-2.ensures)
