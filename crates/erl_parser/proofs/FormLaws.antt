-- Forms: what is read is right, and what is well formed is read again.
use Rattle.std.proofs.Common.{◌≡◌, ℕ, zero, suc, ◌<◌, Bool, true, false, ◌||◌, List, [], ◌∷◌, ◌++◌, length, refl, ap, sym, ◌∙◌, subst, inl, inr, append_assoc, append-nil, length-append, arith}
use Rattle.std.specs.Prelude.{Option, Some, None, if◌then◌else◌, codes}
use Rattle.std.specs.Str.{bytes_eq}
use Rattle.type_terms.specs.Keys.{Name}
use Rattle.erl_tree.specs.Lists.{Among}
use Rattle.erl_tree.specs.declared.token.Place.{Place}
use Rattle.erl_tree.specs.declared.token.Placed.{Placed}
use Rattle.erl_tree.specs.declared.token.Token.{Token}
use Rattle.erl_tree.specs.declared.token.Token.TheVariants as T
use Rattle.erl_tree.specs.declared.form.TreeForm.{TreeForm}
use Rattle.erl_grammar.specs.Pieces.{at}
use Rattle.erl_grammar.specs.Nesting.{deep_all}
use Rattle.erl_grammar.specs.FormSpelling.{export_attribute, type_attribute, form_tokens, forms_tokens}
use Rattle.erl_grammar.specs.FormNesting.{form_deep}
use Rattle.erl_grammar.specs.FormGrammar as G
use Rattle.erl_grammar.specs.FormGrammar.{is_one_of, read_attributes, preprocessor_attributes, IsForm}
use Rattle.erl_parser_tokens.specs.Tokens.{Answer, in_case, outside, is_end, end, mark, outside_attribute}
use Rattle.erl_parser_tokens.specs.Outside.{by_attribute, by_attribute_word}
use Rattle.erl_parser_tokens.proofs.HeightLaws.{among_front, among_behind}
use Rattle.erl_parser_tokens.proofs.Then.{behind_part, Right, right_ok, right_fault, right_outside, right_as, right_behind, right_then, right_case, right_if, Again, again_ok, again_as, again_from, again_none, again_some, IsDeep}
use Rattle.erl_parser_tokens.proofs.TokenLaws.{text_is, mark-takes, mark-again, stands_first, end-takes, end-again}
use Rattle.erl_parser_tokens.proofs.Endings.{mark-none}
use Rattle.erl_parser.specs.Forms.{read_export, read_record, read_type_definition, read_spec, read_skipped, read_attribute_named, attribute_from, read_attribute, read_function, read_form, read_forms}
use Rattle.erl_parser.proofs.ItemsLaws.{IsThis, again_this}
use Rattle.erl_parser.proofs.FormTokens.{FormRead, attribute_text}
use Rattle.erl_parser.proofs.AttributeLaws.{export-right, export-again, type_definition-right, type_definition-again, IsOther, skipped-right, skipped-again}
use Rattle.erl_parser.proofs.RecordLaws.{record-right, record-again}
use Rattle.erl_parser.proofs.SpecLaws.{spec-right, spec-again}
use Rattle.erl_parser.proofs.FunctionLaws.{function-right, function_begins_with, function-again}

-- ---- names of attributes

-- no form outside of the profile has this name
unnamed : (name : Name) → outside_attribute name ≡ None → (is_one_of name preprocessor_attributes ≡ false) × (is_one_of name (codes "import" ∷ codes "nominal" ∷ []) ≡ false)
unfolding outside_attribute
unnamed name e = by (is_one_of name preprocessor_attributes) (bytes_eq name (codes "import")) (bytes_eq name (codes "nominal")) e
  where
    some_name : List ℕ → Option (List ℕ)
    some_name x = Some x

    by : (a b c : Bool) → (if a then some_name (codes "preprocessor") else (if b then some_name (codes "import") else (if c then some_name (codes "nominal") else None))) ≡ None → (a ≡ false) × ((b || (c || false)) ≡ false)
    by true b c e = absurd cc
    by false true c e = absurd cc
    by false false true e = absurd cc
    by false false false e = (refl, refl)

-- the name is none of those that are read
others : (a b c d e f g : Bool) → a ≡ false → b ≡ false → c ≡ false → d ≡ false → e ≡ false → f ≡ false → g ≡ false → (g || (a || (b || (c || (d || (e || (f || false))))))) ≡ false
others a b c d e f g i j k l m n o = rw (i, j, k, l, m, n, o) refl

-- an attribute by its name is read rightly
named-right : (levels : ℕ) (name : Name) (h w : Place) (ts : List Placed) → Right (FormRead levels (attribute_text name h w ts)) (attribute_text name h w ts) (read_attribute_named levels name h w ts)
unfolding read_attribute_named
named-right levels name h w ts =
    right_if (λ e. this (codes "export") _ e (export-right levels false h w ts)) λ a.
    right_if (λ e. this (codes "export_type") _ e (export-right levels true h w ts)) λ b.
    right_if (λ e. this (codes "record") _ e (record-right levels h w ts)) λ c.
    right_if (λ e. this (codes "type") _ e (type_definition-right levels false h w ts)) λ d.
    right_if (λ e. this (codes "opaque") _ e (type_definition-right levels true h w ts)) λ f.
    right_if (λ e. this (codes "spec") _ e (spec-right levels h w ts)) λ g.
    right_if (λ e. right_fault tt) λ m.
    right_case
    (λ n. let u = unnamed name n in skipped-right levels name h w ts (record {
      not_read = others (bytes_eq name (codes "export")) (bytes_eq name (codes "export_type")) (bytes_eq name (codes "record")) (bytes_eq name (codes "type")) (bytes_eq name (codes "opaque")) (bytes_eq name (codes "spec")) (bytes_eq name (codes "module")) a b c d f g m;
      no_preprocessor = u.0;
      no_other = u.1;
    }))
    (λ form e. right_outside (stands_first (by_attribute form name h w [] ts e)))
  where
    this : (known : Name) (answer : Answer (TreeForm × List Placed)) → bytes_eq name known ≡ true → Right (FormRead levels (attribute_text known h w ts)) (attribute_text known h w ts) answer → Right (FormRead levels (attribute_text name h w ts)) (attribute_text name h w ts) answer
    this known answer e r = subst (λ n. Right (FormRead levels (attribute_text n h w ts)) (attribute_text n h w ts) answer) (sym (text_is known name e)) r

attribute_by : (levels : ℕ) (t : Token) (h w : Place) (ts : List Placed) → let whole : List Placed = at (T.Mark (codes "-")) h ∷ at t w ∷ ts in Right (FormRead levels whole) whole (attribute_from levels t h w ts)
attribute_by levels (T.Atom name) h w ts = named-right levels name h w ts
attribute_by levels (T.Word name) h w ts = right_if (λ e. right_outside (stands_first (by_attribute_word name h w [] ts e))) (λ e. right_fault tt)
attribute_by levels (T.Var x) h w ts = right_fault tt
attribute_by levels (T.Int n) h w ts = right_fault tt
attribute_by levels (T.Char c) h w ts = right_fault tt
attribute_by levels (T.Str s) h w ts = right_fault tt
attribute_by levels (T.Mark m) h w ts = right_fault tt
attribute_by levels T.Dot h w ts = right_fault tt
attribute_by levels T.End h w ts = right_fault tt

attribute-right : (levels : ℕ) (h : Place) (ts : List Placed) → Right (FormRead levels (at (T.Mark (codes "-")) h ∷ ts)) (at (T.Mark (codes "-")) h ∷ ts) (read_attribute levels h ts)
unfolding read_attribute
attribute-right levels h [] = right_fault tt
attribute-right levels h (t ∷ ts) = attribute_by levels t.token h t.place ts

-- a form is read rightly
pub form-right : (levels : ℕ) (ts : List Placed) → Right (FormRead levels ts) ts (read_form levels ts)
unfolding read_form
form-right levels ts = right_case
    (λ e. function-right levels ts)
    (λ h e. subst (λ us. Right (FormRead levels us) us (read_attribute levels h.0 h.1)) (sym (mark-takes (codes "-") ts h e)) (attribute-right levels h.0 h.1))

-- ---- forms are read again

neither : (a b : Bool) → (a || b) ≡ false → (a ≡ false) × (b ≡ false)
neither true b e = absurd cc
neither false b e = (refl, e)

-- a test fails
pass : {A : Type 0} {test : Bool} (one : A) {other : A} → test ≡ false → (if test then one else other) ≡ other
pass one {other = other} e = ap (λ z. if z then one else other) e

-- an attribute that is skipped, by its name
skipped_by_name : (levels : ℕ) (name : Name) (h w : Place) (ts : List Placed) → IsOther name → read_attribute_named levels name h w ts ≡ read_skipped name h w ts
unfolding read_attribute_named outside_attribute
skipped_by_name levels name h w ts o =
    let m = neither (bytes_eq name (codes "module")) _ o.not_read in
    let a = neither (bytes_eq name (codes "export")) _ m.1 in
    let b = neither (bytes_eq name (codes "export_type")) _ a.1 in
    let c = neither (bytes_eq name (codes "record")) _ b.1 in
    let d = neither (bytes_eq name (codes "type")) _ c.1 in
    let e = neither (bytes_eq name (codes "opaque")) _ d.1 in
    let f = neither (bytes_eq name (codes "spec")) _ e.1 in
    let i = neither (bytes_eq name (codes "import")) _ o.no_other in
    let n = neither (bytes_eq name (codes "nominal")) _ i.1 in
    pass _ a.0 ∙ (pass _ b.0 ∙ (pass _ c.0 ∙ (pass _ d.0 ∙ (pass _ e.0 ∙ (pass _ f.0 ∙ (pass _ m.0 ∙ ap (λ z. in_case z (read_skipped name h w ts) (λ form. outside form h)) (pass _ o.no_preprocessor ∙ (pass _ i.0 ∙ pass _ n.0))))))))

-- a form that begins with a hyphen and an atom
begins_attribute : (levels : ℕ) (name : Name) (h w : Place) (ts : List Placed) → read_form levels (attribute_text name h w ts) ≡ read_attribute_named levels name h w ts
unfolding read_form read_attribute
begins_attribute levels name h w ts = ap (λ z. in_case z (read_function levels (attribute_text name h w ts)) (λ h. read_attribute levels h.0 h.1)) (mark-again (codes "-") h (at (T.Atom name) w ∷ ts))

by_export : (levels : ℕ) (types : Bool) (h w : Place) (ts : List Placed) → read_attribute_named levels (export_attribute types) h w ts ≡ read_export types h w ts
unfolding read_attribute_named
by_export levels false h w ts = refl
by_export levels true h w ts = refl

by_record : (levels : ℕ) (h w : Place) (ts : List Placed) → read_attribute_named levels (codes "record") h w ts ≡ read_record levels h w ts
unfolding read_attribute_named
by_record levels h w ts = refl

by_type : (levels : ℕ) (opaque : Bool) (h w : Place) (ts : List Placed) → read_attribute_named levels (type_attribute opaque) h w ts ≡ read_type_definition levels opaque h w ts
unfolding read_attribute_named
by_type levels false h w ts = refl
by_type levels true h w ts = refl

by_spec : (levels : ℕ) (h w : Place) (ts : List Placed) → read_attribute_named levels (codes "spec") h w ts ≡ read_spec levels h w ts
unfolding read_attribute_named
by_spec levels h w ts = refl

-- the form is read again
abbrev ReadAgain : ℕ → TreeForm → List Placed → Answer (TreeForm × List Placed) → Type 0
ReadAgain levels f rest answer = Again (IsThis (f, rest)) (IsDeep form_deep levels f) answer

attribute_again : (levels : ℕ) (f : TreeForm) (rest : List Placed) (name : Name) (h w : Place) (ts : List Placed) (answer : Answer (TreeForm × List Placed)) → form_tokens f ++ rest ≡ attribute_text name h w ts → read_attribute_named levels name h w ts ≡ answer → ReadAgain levels f rest answer → ReadAgain levels f rest (read_form levels (form_tokens f ++ rest))
attribute_again levels f rest name h w ts answer e g a = again_from (ap (read_form levels) e ∙ (begins_attribute levels name h w ts ∙ g)) a

function_again : (levels : ℕ) (name : Name) (place : Place) (ts us : List Placed) (f : TreeForm) (rest : List Placed) → ts ≡ at (T.Atom name) place ∷ us → ReadAgain levels f rest (read_function levels ts) → ReadAgain levels f rest (read_form levels ts)
unfolding read_form
function_again levels name place ts us f rest e a = again_none _ (ap (mark (codes "-")) e ∙ mark-none (codes "-") (T.Atom name) place us refl) a

-- a form is read again
pub form-again : (levels : ℕ) (f : TreeForm) (rest : List Placed) → IsForm f → ReadAgain levels f rest (read_form levels (form_tokens f ++ rest))
form-again levels _ rest (G.export_form _ (G.export h w o b c d p ms types names g)) =
    let a = export-again levels h w o b c d p ms types names rest g in
    attribute_again levels _ rest (export_attribute types) h w _ _ a.0 (by_export levels types h w _) a.1
form-again levels _ rest (G.record_form _ (G.record_definition h w o n c b d e p ms name fields g i)) =
    let a = record-again levels h w o n c b d e p ms name fields rest g i in
    attribute_again levels _ rest (codes "record") h w _ _ a.0 (by_record levels h w _) a.1
form-again levels _ rest (G.type_form _ (G.type_definition h w n o c m p ms opaque name params body g i)) =
    let a = type_definition-again levels h w n o c m p ms opaque name params body rest g i in
    attribute_again levels _ rest (type_attribute opaque) h w _ _ a.0 (by_type levels opaque h w _) a.1
form-again levels _ rest (G.spec_form _ (G.spec h w n p ms name c cs g i)) =
    let a = spec-again levels h w n p ms name c cs rest g i in
    attribute_again levels _ rest (codes "spec") h w _ _ a.0 (by_spec levels h w _) a.1
form-again levels _ rest (G.skipped_form _ (G.skipped h w p ms name tokens r k j g i)) =
    let a = skipped-again levels h w p ms name tokens rest g i in
    attribute_again levels _ rest name h w _ _ a.0 (skipped_by_name levels name h w _ (record { not_read = r; no_preprocessor = k; no_other = j })) a.1
form-again levels _ rest (G.function_form f i) =
    let b = function_begins_with f rest i in
    function_again levels f.name f.place _ b.others _ rest b.begins (function-again levels f rest i)

-- ---- forms in turn

-- the first token of a form, which is no end of the text
record BeginsForm (ts : List Placed) : Type 0 where
  first : Token
  place : Place
  others : List Placed
  begins : ts ≡ at first place ∷ others
  no_end : is_end first ≡ false

form_begins : (f : TreeForm) (rest : List Placed) → IsForm f → BeginsForm (form_tokens f ++ rest)
form_begins _ rest (G.export_form _ (G.export h w o b c d p ms types names g)) = record { first = T.Mark (codes "-"); place = h; others = _; begins = refl; no_end = refl }
form_begins _ rest (G.record_form _ (G.record_definition h w o n c b d e p ms name fields g i)) = record { first = T.Mark (codes "-"); place = h; others = _; begins = refl; no_end = refl }
form_begins _ rest (G.type_form _ (G.type_definition h w n o c m p ms opaque name params body g i)) = record { first = T.Mark (codes "-"); place = h; others = _; begins = refl; no_end = refl }
form_begins _ rest (G.spec_form _ (G.spec h w n p ms name c cs g i)) = record { first = T.Mark (codes "-"); place = h; others = _; begins = refl; no_end = refl }
form_begins _ rest (G.skipped_form _ (G.skipped h w p ms name tokens r k j g i)) = record { first = T.Mark (codes "-"); place = h; others = _; begins = refl; no_end = refl }
form_begins _ rest (G.function_form f i) = let b = function_begins_with f rest i in record { first = T.Atom f.name; place = f.place; others = b.others; begins = b.begins; no_end = refl }

no_end_first : (t : Token) (p : Place) (ts : List Placed) → is_end t ≡ false → end (at t p ∷ ts) ≡ None
unfolding end
no_end_first t p [] e = rw e refl
no_end_first t p (u ∷ ts) e = refl

-- forms were read up to the end, behind those that were
pub record FormsRead (levels : ℕ) (fs : List TreeForm) (ts : List Placed) (q : List TreeForm × Place) : Type 0 where
  pub others : List TreeForm
  pub same : q.0 ≡ fs ++ others
  pub formed : (f : TreeForm) → Among f others → IsForm f
  pub takes : ts ≡ forms_tokens others ++ at T.End q.1 ∷ []
  pub shallow : deep_all form_deep others levels ≡ []

either_form : (f : TreeForm) (fs : List TreeForm) → IsForm f → ((g : TreeForm) → Among g fs → IsForm g) → (g : TreeForm) → Among g (f ∷ fs) → IsForm g
either_form f fs i h g (inl e) = subst IsForm (sym e) i
either_form f fs i h g (inr a) = h g a

one_form : (levels : ℕ) (fs : List TreeForm) (ts : List Placed) (f : TreeForm × List Placed) (q : List TreeForm × Place) → FormRead levels ts f → FormsRead levels (fs ++ f.0 ∷ []) f.1 q → FormsRead levels fs ts q
one_form levels fs ts f q h r = record {
  others = f.0 ∷ r.others;
  same = r.same ∙ append_assoc fs (f.0 ∷ []) r.others;
  formed = either_form f.0 r.others h.formed r.formed;
  takes = h.takes ∙ (ap (λ l. form_tokens f.0 ++ l) r.takes ∙ sym (append_assoc (form_tokens f.0) (forms_tokens r.others) (at T.End q.1 ∷ [])));
  shallow = ap (λ l. l ++ deep_all form_deep r.others levels) h.shallow ∙ r.shallow;
}

-- forms are read rightly
pub forms-right : (levels k : ℕ) (fs : List TreeForm) (ts : List Placed) → Right (FormsRead levels fs ts) ts (read_forms levels k fs ts)
unfolding read_forms
forms-right levels zero fs ts = right_fault tt
forms-right levels (suc k) fs ts = right_case
    (λ n. right_then (form-right levels ts) λ f h. right_as (λ q r. one_form levels fs ts f q h r) (right_behind (behind_part (form_tokens f.0) h.takes) (forms-right levels k (fs ++ f.0 ∷ []) f.1)))
    (λ e s. right_ok (record { others = []; same = sym (append-nil fs); formed = λ f a. elim a [ ]; takes = end-takes ts e s; shallow = refl }))

-- a form has a token at least
form_long : (f : TreeForm) → IsForm f → zero < length (form_tokens f)
form_long f i = let b = form_begins f [] i in subst (λ l. zero < length l) (append-nil (form_tokens f)) (subst (λ l. zero < length l) (sym b.begins) (omega arith))

left_over : (front us : List Placed) (k : ℕ) → zero < length front → length (front ++ us) < suc k → length us < k
left_over front us k z l = omega (arith, length-append front us, z, l)

-- forms are read again; there is fuel for each token
pub forms-again : (levels k : ℕ) (fs xs : List TreeForm) (e : Place) → ((f : TreeForm) → Among f xs → IsForm f) → length (forms_tokens xs ++ at T.End e ∷ []) < k → Again (IsThis (fs ++ xs, e)) (IsDeep (deep_all form_deep) levels xs) (read_forms levels k fs (forms_tokens xs ++ at T.End e ∷ []))
unfolding read_forms
forms-again levels zero fs xs e h l = absurd (omega arith)
forms-again levels (suc k) fs [] e h l = again_some _ _ (end-again e) (again_ok (ap (λ ys. (ys, e)) (sym (append-nil fs))))
forms-again levels (suc k) fs (x ∷ xs) e h l =
    let behind : List Placed = forms_tokens xs ++ at T.End e ∷ [] in
    let i : IsForm x = h x (inl refl) in
    let b = form_begins x behind i in
    let same : forms_tokens (x ∷ xs) ++ at T.End e ∷ [] ≡ form_tokens x ++ behind = append_assoc (form_tokens x) (forms_tokens xs) (at T.End e ∷ []) in
    again_from (ap (read_forms levels (suc k) fs) same)
    (again_none _ (ap end b.begins ∙ no_end_first b.first b.place b.others b.no_end)
    (again_this _ (form-again levels x behind i) (λ p d. among_front p (form_deep x levels) _ d)
    (again_as (λ q g. g ∙ ap (λ ys. (ys, e)) (append_assoc fs (x ∷ []) xs)) (λ p d. among_behind p (form_deep x levels) _ d)
    (forms-again levels k (fs ++ x ∷ []) xs e (λ f a. h f (inr a)) (left_over (form_tokens x) behind k (form_long x i) (subst (λ ts. length ts < suc k) same l))))))
