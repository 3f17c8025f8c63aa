-- A text that is one type: what is found is the type with these tokens, each well-formed type is found or is nested too deep, and no tokens are those of two. The same of parameters of fun types.
use Rattle.std.proofs.Common.{◌≡◌, ℕ, List, [], ◌∷◌, ◌++◌, refl, ap, sym, ◌∙◌, subst, le_refl}
use Rattle.std.specs.Prelude.{Ok}
use Rattle.erl_tree.specs.Lists.{Among}
use Rattle.erl_tree.specs.declared.token.Place.{Place}
use Rattle.erl_tree.specs.declared.token.Placed.{Placed}
use Rattle.erl_tree.specs.declared.token.Token.TheVariants as T
use Rattle.erl_grammar.specs.Pieces.{at}
use Rattle.erl_grammar.specs.TypeSpelling.{type_tokens}
use Rattle.erl_grammar.specs.TypeNesting.{type_deep, IsTypeWithin}
use Rattle.erl_grammar.specs.TypeGrammar.{IsType, IsParameter}
use Rattle.erl_grammar.proofs.TypeDepthLaws.{type_bounded, parameter_bounded}
use Rattle.erl_parser_tokens.specs.declared.fault.ParseFault.TheVariants as faults
use Rattle.erl_parser_tokens.specs.declared.height.Measured.{Measured}
use Rattle.erl_parser_tokens.specs.Tokens.{first_place}
use Rattle.erl_parser_types.specs.Types.{TypeExpr, read_whole_type, read_parameter_at}
use Rattle.erl_parser_types.specs.Answers.{IsTypeText}
use Rattle.erl_parser_tokens.proofs.Then.{Right, right_ok, right_fault, right_then, right_case, IsRead, Again, again_ok, again_some, IsPart, IsDeep, again_read, again_shallow}
use Rattle.erl_parser_tokens.proofs.TokenLaws.{end-takes, end-again}
use Rattle.erl_parser_types.proofs.TypeRight.{read_type-right}
use Rattle.erl_parser_types.proofs.TypeEnds.{EndsParameter, end_ends_type, token_ends_parameter}
use Rattle.erl_parser_types.proofs.TypeAgain.{read_type-again, read_parameter_at-again}

-- the type that was found
pub record FoundType (d : ℕ) (ts : List Placed) (x : TypeExpr) : Type 0 where
  pub formed : IsType x
  pub shallow : IsTypeWithin d x
  pub text : IsTypeText x ts

found : (d : ℕ) (ts us : List Placed) (t : Measured TypeExpr) (e : Place) → IsRead IsType type_tokens type_deep d ts (t, us) → us ≡ at T.End e ∷ [] → FoundType d ts t.tree
found d ts us t e r g = record { formed = r.formed; shallow = r.measures.shallow d r.within; text = record { end = e; text = r.takes ∙ ap (λ vs. type_tokens t.tree ++ vs) g } }

-- what is found is well formed and has exactly these tokens, and a form outside of the profile is answered only where it stands
pub read_whole_type-right : (d : ℕ) (ts : List Placed) → Right (FoundType d ts) ts (read_whole_type d ts)
unfolding read_whole_type
read_whole_type-right d ts = right_then (read_type-right d ts) λ t r. right_case (λ n. right_fault {f = faults.Unexpected (first_place t.1)} tt) (λ e s. right_ok (found d ts t.1 t.0 e r (end-takes t.1 e s)))

-- a well-formed type is what is answered, or a node of it is nested too deep
again_at_end : (d : ℕ) (x : TypeExpr) (e : Place) → IsType x → Again (λ y. y ≡ x) (λ q. Among q (type_deep x d)) (read_whole_type d (type_tokens x ++ at T.End e ∷ []))
unfolding read_whole_type
again_at_end d x e i = again_read _ (read_type-again d x (at T.End e ∷ []) i (end_ends_type e [])) (λ q a. a) λ h. again_some _ _ (end-again e) (again_ok refl)

pub read_whole_type-again : (d : ℕ) (ts : List Placed) (x : TypeExpr) → IsType x → IsTypeText x ts → Again (λ y. y ≡ x) (λ q. Among q (type_deep x d)) (read_whole_type d ts)
read_whole_type-again d ts x i t = subst (λ us. Again (λ y. y ≡ x) (λ q. Among q (type_deep x d)) (read_whole_type d us)) (sym t.text) (again_at_end d x t.end i)

-- a well-formed type that is nested at most so deep is found
pub read_whole_type-finds : (d : ℕ) (ts : List Placed) (x : TypeExpr) → IsType x → IsTypeText x ts → IsTypeWithin d x → read_whole_type d ts ≡ Ok x
read_whole_type-finds d ts x i t s = let r = again_shallow (λ p a. elim (subst (Among p) s a) [ ]) (read_whole_type-again d ts x i t) in r.1 ∙ ap (λ y. Ok y) r.2

same_by : (d : ℕ) (ts : List Placed) (x y : TypeExpr) → IsType x → IsTypeText x ts → read_whole_type d ts ≡ Ok y → y ≡ x
same_by d ts x y i t g = (subst (λ z. Again (λ w. w ≡ x) (λ q. Among q (type_deep x d)) z) g (read_whole_type-again d ts x i t)).holds

one_type_text : (ts : List Placed) (x y : TypeExpr) → IsType x → IsType y → IsTypeText x ts → IsTypeText y ts → x ≡ y
one_type_text ts x y i j t u = let b = type_bounded i in same_by b.bound ts y x j u (read_whole_type-finds b.bound ts x i t (b.empty b.bound (le_refl b.bound)))

-- no tokens are those of two well-formed types
pub one_type : (x y : TypeExpr) → IsType x → IsType y → type_tokens x ≡ type_tokens y → x ≡ y
one_type x y i j g = one_type_text (type_tokens x ++ at T.End x.place ∷ []) x y i j (record { end = x.place; text = refl }) (record { end = x.place; text = ap (λ ts. ts ++ at T.End x.place ∷ []) g })

-- ---- parameters

end_ends_parameter : (p : Place) → EndsParameter (at T.End p ∷ [])
end_ends_parameter p = token_ends_parameter T.End p [] (end_ends_type p []) refl

same_parameter : (d : ℕ) (x y : TypeExpr) (rest : List Placed) → IsParameter x → IsParameter y → type_deep x d ≡ [] → EndsParameter rest → type_tokens x ≡ type_tokens y → x ≡ y
same_parameter d x y rest i j s ends g =
    let r = again_shallow (λ p a. elim (subst (Among p) s a) [ ]) (read_parameter_at-again d x rest i ends) in
    let b = subst (λ ts. Again (IsPart y rest) (IsDeep type_deep d y) (read_parameter_at d (ts ++ rest))) (sym g) (read_parameter_at-again d y rest j ends) in
    let p = (subst (λ z. Again (IsPart y rest) (IsDeep type_deep d y) z) r.1 b).holds in
    ap (λ q. q.0.tree) (sym r.2.1 ∙ p.1)

-- no tokens are those of two parameters
pub one_parameter : (x y : TypeExpr) → IsParameter x → IsParameter y → type_tokens x ≡ type_tokens y → x ≡ y
one_parameter x y i j g = let b = parameter_bounded i in same_parameter b.bound x y (at T.End x.place ∷ []) i j (b.empty b.bound (le_refl b.bound)) (end_ends_parameter x.place) g
