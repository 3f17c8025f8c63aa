-- The signs in a term are how what is sought stands in it.
use Rattle.std.proofs.Common.{◌≡◌, refl, sym, ◌∙◌, ap, subst, ℕ, zero, suc, List, [], ◌∷◌, ◌++◌, map, Bool, true, false, ◌⊎◌, inl, inr, ⊎_elim, eq-eqb, add-zero}
use Rattle.std.specs.Prelude.{Some, None as Nothing, slice_get, not, nat_eq, IsTrue, ◌↔◌}
use Rattle.std.specs.List.{Contains}
use Rattle.type_terms.specs.declared.sign_search.DefSigns.{DefSigns}
use Rattle.type_terms.specs.declared.sign_search.Sought.{Sought}
use Rattle.type_terms.specs.declared.sign_search.Sought.TheVariants.{Funs, Variable, FunsAndVariables}
use Rattle.type_terms.specs.declared.term.Def.{Def}
use Rattle.type_terms.specs.declared.term.Term.{Term, Any, Fun, Not, Var, Name}
use Rattle.type_terms.specs.declared.term.Term.TheViews as Views
use Rattle.type_terms.specs.Definitions.{NamesAreDefined}
use Rattle.type_terms.specs.Parts.{layer_children, children, layer_positive_children, positive_children, IsPart, itself as whole_part, in_child as part_of_child}
use Rattle.type_terms.specs.Replacement.{Substitution, replaced, replaced_by, argument_of}
use Rattle.type_terms.specs.Signs.{StandsUnder, itself, in_child, in_not, in_body, IsWellSigned}
use Rattle.type_terms.specs.SignTables.{own_signs, wants_fun, wants_variable, fun_signs, variable_signs, name_signs, has_sign, signs_in, signs_in_terms, signs_through, IsSought, SoughtStands, SignsStand, HasRows, IsRow, IsSignTable}
use Rattle.type_terms.specs.Undefined.{undefined_in}
use Rattle.type_terms.proofs.UndefinedMeaning.{none-defined, defined-none}
use Rattle.type_terms.proofs.Contained.{contains-first, contains-later}
use Rattle.std.proofs.lemmas.Bool.{eqb-true}
use Rattle.type_terms.proofs.PartLaws.{contains-at, children-Name, children-Not}
use Rattle.type_terms.proofs.Induction.{by-children}
use Rattle.type_terms.proofs.ReplacementParts as Parts
use Rattle.type_terms.proofs.SignLaws.{both, both-not, stands-joined, stands-replaced}
use Rattle.type_terms.proofs.SignTableLaws as Laws
use Rattle.type_terms.proofs.SignViews.{SignView, by_parts, by_fun, by_not, by_variable, by_name, sign-view, map-append}
use Rattle.type_terms.proofs.SignParts.{Has, has-none, has-either, has-own, has-flipped, has-chosen, Sign, Parameter, FromArgument, from-terms, from-arguments, at-terms, fun-parts, lift-fun, lift-not, lift-argument, lift-name, lift-child, fun-itself, variable-itself, both-twice, both-cancel, not-twice}

fun-sought : (w : Sought) (ps : List Term) (r : Term) → wants_fun w ≡ true → IsSought w (Fun ps r)
fun-sought Funs ps r e = (ps, r, refl)
fun-sought (Variable i) ps r e = absurd (cc)
fun-sought FunsAndVariables ps r e = inl (ps, r, refl)

variable-sought : (w : Sought) (n : ℕ) → wants_variable w n ≡ true → IsSought w (Var n)
variable-sought Funs n e = absurd (cc)
variable-sought (Variable i) n e = ap Var (sym (eqb-true i n e))
variable-sought FunsAndVariables n e = inr (n, refl)

-- a child of a fun type
fun-child : (ts : List Term) (t c : Term) → Contains (ts ++ t ∷ []) c → Contains (positive_children (Fun ts t)) c
fun-child ts t c k = subst (λ (l : List Term). Contains l c) (sym (ap layer_positive_children (Views.outs-Fun ts t))) k

fun-part : (ts : List Term) (t c : Term) → Contains (ts ++ t ∷ []) c → Contains (children (Fun ts t)) c
fun-part ts t c k = subst (λ (l : List Term). Contains l c) (sym (ap layer_children (Views.outs-Fun ts t))) k

not-part : (t : Term) → Contains (children (Not t)) t
not-part t = subst (λ (l : List Term). Contains l t) (sym (children-Not t)) (contains-first t [])

name-part : (n : ℕ) (ts : List Term) (i : ℕ) (t : Term) → slice_get ts i ≡ Some t → Contains (children (Name n ts)) t
name-part n ts i t g = subst (λ (l : List Term). Contains l t) (sym (children-Name n ts)) (contains-at ts i t g)

argument-is : (ts : List Term) (i : ℕ) (t : Term) → slice_get ts i ≡ Some t → argument_of ts i ≡ t
argument-is [] i t e = absurd (cc)
argument-is (s ∷ ts) zero t e = some_inj e
  where
    some_inj : Some s ≡ Some t → s ≡ t
    some_inj r = cc
argument-is (s ∷ ts) (suc i) t e = argument-is ts i t e

argument-there : (ts : List Term) (i : ℕ) → ((t : Term) × (slice_get ts i ≡ Some t) × (argument_of ts i ≡ t)) ⊎ (argument_of ts i ≡ Any)
argument-there [] i = inr refl
argument-there (s ∷ ts) zero = inl (s, refl, refl)
argument-there (s ∷ ts) (suc i) = argument-there ts i

slice-mapped : (f : Term → Term) (ts : List Term) (i : ℕ) (u : Term) → slice_get (map f ts) i ≡ Some u → (t : Term) × (slice_get ts i ≡ Some t) × (f t ≡ u)
slice-mapped f [] i u e = absurd (cc)
slice-mapped f (s ∷ ts) zero u e = (s, refl, some_inj e)
  where
    some_inj : Some (f s) ≡ Some u → f s ≡ u
    some_inj r = cc
slice-mapped f (s ∷ ts) (suc i) u e = slice-mapped f ts i u e

-- what has a sign by a table that says only what stands, stands under it
module _ (defs : List Def) (table : List DefSigns) (stand : SignsStand defs table) where
  stand-child : (w : Sought) (b : Bool) (whole c : Term) → Contains (positive_children whole) c → SoughtStands defs w b c → SoughtStands defs w b whole
  stand-child w b whole c k s = (s.0, s.1, in_child b s.0 c whole k s.2)

  stand-argument : (w : Sought) (n : ℕ) (ts : List Term) (i : ℕ) (t : Term) (c b : Bool) → slice_get ts i ≡ Some t → Parameter table n i c → SoughtStands defs w b t → SoughtStands defs w (both c b) (Name n ts)
  unfolding Has
  stand-argument w n ts i t c b g p s =
      let d : (def : Def) × (slice_get defs n ≡ Some def) × SoughtStands defs (Variable i) c def.body = stand.of_parameters n i c p in
      let v : StandsUnder defs c (Var i) d.0.body = subst (λ (x : Term). StandsUnder defs c x d.0.body) d.2.1 d.2.2 in
      let r : StandsUnder defs c t (replaced_by ts d.0.body) = subst (λ (x : Term). StandsUnder defs c x (replaced_by ts d.0.body)) (argument-is ts i t g) (stands-replaced (argument_of ts) defs c (Var i) d.0.body v) in
      (s.0, s.1, in_body (both c b) s.0 (Name n ts) n ts d.0 refl d.1 (stands-joined defs b c s.0 t (replaced_by ts d.0.body) s.2 r))

  stand-name : (w : Sought) (b : Bool) (n : ℕ) (ts : List Term) → wants_fun w ≡ true → Has b (fun_signs (slice_get table n)) → SoughtStands defs w b (Name n ts)
  unfolding Has
  stand-name w b n ts e h =
      let d : (def : Def) × (slice_get defs n ≡ Some def) × SoughtStands defs Funs b def.body = stand.of_funs n b h in
      let ps : List Term = d.2.1.0 in
      let r : Term = d.2.1.1 in
      let f : Substitution = argument_of ts in
      let v : StandsUnder defs b (Fun ps r) d.0.body = subst (λ (x : Term). StandsUnder defs b x d.0.body) d.2.1.2 d.2.2 in
      let u : StandsUnder defs b (Fun (map (replaced f) ps) (replaced f r)) (replaced_by ts d.0.body) = subst (λ (x : Term). StandsUnder defs b x (replaced_by ts d.0.body)) (Parts.replaced-Fun f ps r) (stands-replaced f defs b (Fun ps r) d.0.body v) in
      (Fun (map (replaced f) ps) (replaced f r), fun-sought w (map (replaced f) ps) (replaced f r) e, in_body b (Fun (map (replaced f) ps) (replaced f r)) (Name n ts) n ts d.0 refl d.1 u)

  Sound : Term → Type 0
  Sound t = (w : Sought) (b : Bool) → Sign table w b t → SoughtStands defs w b t

  sound-step : (t : Term) → SignView table t → ((c : Term) → Contains (children t) c → Sound c) → Sound t
  unfolding Sound Sign
  sound-step _ (by_parts t ts e p q r) ih w b h =
      let m : (c : Term) × Contains ts c × Sign table w b c = from-terms table w b ts (subst (Has b) (q w) h) in
      stand-child w b t m.0 (subst (λ (l : List Term). Contains l m.0) (sym p) m.1) (ih m.0 (subst (λ (l : List Term). Contains l m.0) (sym e) m.1) w b m.2)
  sound-step _ (by_fun ts t) ih w b h =
      ⊎_elim (λ k. let o : (b ≡ false) × (wants_fun w ≡ true) = has-own b (wants_fun w) k in subst (λ c. SoughtStands defs w c (Fun ts t)) (sym o.0) (Fun ts t, fun-sought w ts t o.1, itself (Fun ts t)))
      (λ k. let m : (c : Term) × Contains (ts ++ t ∷ []) c × Sign table w b c = from-terms table w b (ts ++ t ∷ []) k in stand-child w b (Fun ts t) m.0 (fun-child ts t m.0 m.1) (ih m.0 (fun-part ts t m.0 m.1) w b m.2))
      (has-either b (own_signs (wants_fun w)) (signs_in_terms table w (ts ++ t ∷ [])) (subst (Has b) (fun-parts table w ts t) h))
  sound-step _ (by_not t) ih w b h =
      let s : SoughtStands defs w (not b) t = ih t (not-part t) w (not b) (has-flipped b (signs_in table w t) (subst (Has b) (Laws.signs-Not table w t) h)) in
      (s.0, s.1, subst (λ c. StandsUnder defs c s.0 (Not t)) (not-twice b) (in_not (not b) s.0 t (Not t) refl s.2))
  sound-step _ (by_variable n) ih w b h =
      let o : (b ≡ false) × (wants_variable w n ≡ true) = has-own b (wants_variable w n) (subst (Has b) (Laws.signs-Var table w n) h) in
      subst (λ c. SoughtStands defs w c (Var n)) (sym o.0) (Var n, variable-sought w n o.1, itself (Var n))
  sound-step _ (by_name n ts) ih w b h =
      ⊎_elim (λ k. let o : (wants_fun w ≡ true) × Has b (fun_signs (slice_get table n)) = has-chosen b (wants_fun w) (fun_signs (slice_get table n)) k in stand-name w b n ts o.0 o.1)
      (λ k. let m : FromArgument table w n 0 ts b = from-arguments table w n 0 b ts k in
      let p : Parameter table n m.0 m.2 = subst (λ j. Parameter table n j m.2) (add-zero m.0) m.4 in
      subst (λ c. SoughtStands defs w c (Name n ts)) (both-twice m.2 b) (stand-argument w n ts m.0 m.1 m.2 (both m.2 b) m.3 p (ih m.1 (name-part n ts m.0 m.1 m.3) w (both m.2 b) m.5)))
      (has-either b (name_signs table w n) (signs_through table w n 0 ts) (subst (Has b) (Laws.signs-Name table w n ts) h))

  pub signs-sound : (w : Sought) (b : Bool) (t : Term) → Sign table w b t → SoughtStands defs w b t
  unfolding Sound
  signs-sound w b t h = by-children Sound (λ t' ih. sound-step t' (sign-view table t') ih) t w b h

module _ (table : List DefSigns) where
  -- a variable that has a sign stands in the term itself
  Mentioned : Term → Type 0
  Mentioned t = (i : ℕ) (b : Bool) → Sign table (Variable i) b t → IsPart (Var i) t

  mentioned-step : (t : Term) → SignView table t → ((c : Term) → Contains (children t) c → Mentioned c) → Mentioned t
  unfolding Mentioned Sign
  mentioned-step _ (by_parts t ts e p q r) ih i b h =
      let m : (c : Term) × Contains ts c × Sign table (Variable i) b c = from-terms table (Variable i) b ts (subst (Has b) (q (Variable i)) h) in
      let k : Contains (children t) m.0 = subst (λ (l : List Term). Contains l m.0) (sym e) m.1 in
      part_of_child (Var i) m.0 t k (ih m.0 k i b m.2)
  mentioned-step _ (by_fun ts t) ih i b h =
      ⊎_elim (λ k. absurd (no-fun (has-own b false k).1))
      (λ k. let m : (c : Term) × Contains (ts ++ t ∷ []) c × Sign table (Variable i) b c = from-terms table (Variable i) b (ts ++ t ∷ []) k in part_of_child (Var i) m.0 (Fun ts t) (fun-part ts t m.0 m.1) (ih m.0 (fun-part ts t m.0 m.1) i b m.2))
      (has-either b (own_signs false) (signs_in_terms table (Variable i) (ts ++ t ∷ [])) (subst (Has b) (fun-parts table (Variable i) ts t) h))
    where
      no-fun : false ≡ true → ⊥
      no-fun q = cc
  mentioned-step _ (by_not t) ih i b h = part_of_child (Var i) t (Not t) (not-part t) (ih t (not-part t) i (not b) (has-flipped b (signs_in table (Variable i) t) (subst (Has b) (Laws.signs-Not table (Variable i) t) h)))
  mentioned-step _ (by_variable n) ih i b h =
      let o : (b ≡ false) × (nat_eq i n ≡ true) = has-own b (nat_eq i n) (subst (Has b) (Laws.signs-Var table (Variable i) n) h) in
      subst (λ m. IsPart (Var i) (Var m)) (eqb-true i n o.1) (whole_part (Var i))
  mentioned-step _ (by_name n ts) ih i b h =
      ⊎_elim (λ k. has-none b k)
      (λ k. let m : FromArgument table (Variable i) n 0 ts b = from-arguments table (Variable i) n 0 b ts k in part_of_child (Var i) m.1 (Name n ts) (name-part n ts m.0 m.1 m.3) (ih m.1 (name-part n ts m.0 m.1 m.3) i (both m.2 b) m.5))
      (has-either b (name_signs table (Variable i) n) (signs_through table (Variable i) n 0 ts) (subst (Has b) (Laws.signs-Name table (Variable i) n ts) h))

  pub variable-mentioned : (i : ℕ) (b : Bool) (t : Term) → has_sign b (signs_in table (Variable i) t) ≡ true → IsPart (Var i) t
  unfolding Mentioned Sign Has
  variable-mentioned i b t h = by-children Mentioned (λ t' ih. mentioned-step t' (sign-view table t') ih) t i b h

  -- what has a sign once variables are replaced: a fun type of the term, or what stands in a variable's term
  module _ (f : Substitution) where
    Inner : Sought → Bool → Term → Type 0
    Inner w b t = ((wants_fun w ≡ true) × Sign table Funs b t) ⊎ ((i : ℕ) × (c : Bool) × Sign table (Variable i) c t × Sign table w (both c b) (f i))

    lift-inner : (w : Sought) (d b : Bool) (t whole : Term) → ((v : Sought) (e : Bool) → Sign table v e t → Sign table v (both d e) whole) → Inner w b t → Inner w (both d b) whole
    unfolding Inner
    lift-inner w d b t whole lift r =
        ⊎_elim (λ (q : (wants_fun w ≡ true) × Sign table Funs b t). inl (q.0, lift Funs b q.1))
        (λ (q : (i : ℕ) × (c : Bool) × Sign table (Variable i) c t × Sign table w (both c b) (f i)). inr (q.0, both d q.1, lift (Variable q.0) q.1 q.2, subst (λ e. Sign table w e (f q.0)) (sym (both-cancel d q.1 b)) q.3))
        r

    from-replaced : (w : Sought) (b : Bool) (ts : List Term) → Has b (signs_in_terms table w (map (replaced f) ts)) → (c : Term) × Contains ts c × Sign table w b (replaced f c)
    unfolding Sign
    from-replaced w b [] h = has-none b h
    from-replaced w b (t ∷ ts) h =
        ⊎_elim (λ k. (t, contains-first t ts, k)) (λ k. let q : (c : Term) × Contains ts c × Sign table w b (replaced f c) = from-replaced w b ts k in (q.0, contains-later t q.0 ts q.1, q.2)) (has-either b (signs_in table w (replaced f t)) (signs_in_terms table w (map (replaced f) ts)) h)

    Replaced : Term → Type 0
    Replaced t = (w : Sought) (b : Bool) → Sign table w b (replaced f t) → Inner w b t

    replaced-step : (t : Term) → SignView table t → ((c : Term) → Contains (children t) c → Replaced c) → Replaced t
    unfolding Replaced Sign Inner
    replaced-step _ (by_parts t ts e p q r) ih w b h =
        let m : (c : Term) × Contains ts c × Sign table w b (replaced f c) = from-replaced w b ts (subst (Has b) (r f w) h) in
        lift-inner w false b m.0 t (λ v s. at-terms table v s t m.0 ts (q v) m.1) (ih m.0 (subst (λ (l : List Term). Contains l m.0) (sym e) m.1) w b m.2)
    replaced-step _ (by_fun ts t) ih w b h =
        ⊎_elim (λ k. own (has-own b (wants_fun w) k))
        (λ k. let m : (c : Term) × Contains (ts ++ t ∷ []) c × Sign table w b (replaced f c) = from-replaced w b (ts ++ t ∷ []) (subst (λ (l : List Term). Has b (signs_in_terms table w l)) (sym (map-append f ts (t ∷ []))) k) in
        lift-inner w false b m.0 (Fun ts t) (λ v s. lift-fun table v s ts t m.0 m.1) (ih m.0 (fun-part ts t m.0 m.1) w b m.2))
        (has-either b (own_signs (wants_fun w)) (signs_in_terms table w (map (replaced f) ts ++ replaced f t ∷ [])) (subst (Has b) (ap (signs_in table w) (Parts.replaced-Fun f ts t) ∙ fun-parts table w (map (replaced f) ts) (replaced f t)) h))
      where
        own : (b ≡ false) × (wants_fun w ≡ true) → Inner w b (Fun ts t)
        own o = inl (o.1, subst (λ s. Sign table Funs s (Fun ts t)) (sym o.0) (fun-itself table Funs ts t refl))
    replaced-step _ (by_not t) ih w b h =
        subst (λ s. Inner w s (Not t)) (not-twice b) (lift-inner w true (not b) t (Not t) (λ v s. lift-not table v s t) (ih t (not-part t) w (not b) (has-flipped b (signs_in table w (replaced f t)) (subst (Has b) (ap (signs_in table w) (Parts.replaced-Not f t) ∙ Laws.signs-Not table w (replaced f t)) h))))
    replaced-step _ (by_variable n) ih w b h = here
      where
        here : Inner w b (Var n)
        here = inr (n, false, variable-itself table (Variable n) n (eq-eqb n n refl), h)
    replaced-step _ (by_name n ts) ih w b h =
        ⊎_elim (λ k. own (has-chosen b (wants_fun w) (fun_signs (slice_get table n)) k))
        (λ k. let m : FromArgument table w n 0 (map (replaced f) ts) b = from-arguments table w n 0 b (map (replaced f) ts) k in
        let p : Parameter table n m.0 m.2 = subst (λ j. Parameter table n j m.2) (add-zero m.0) m.4 in
        let a : (t : Term) × (slice_get ts m.0 ≡ Some t) × (replaced f t ≡ m.1) = slice-mapped (replaced f) ts m.0 m.1 m.3 in
        subst (λ s. Inner w s (Name n ts)) (both-twice m.2 b) (lift-inner w m.2 (both m.2 b) a.0 (Name n ts) (λ v s. lift-argument table v n ts m.0 a.0 m.2 s a.1 p) (ih a.0 (name-part n ts m.0 a.0 a.1) w (both m.2 b) (subst (λ (x : Term). Sign table w (both m.2 b) x) (sym a.2) m.5))))
        (has-either b (name_signs table w n) (signs_through table w n 0 (map (replaced f) ts)) (subst (Has b) (ap (signs_in table w) (Parts.replaced-Name f n ts) ∙ Laws.signs-Name table w n (map (replaced f) ts)) h))
      where
        own : (wants_fun w ≡ true) × Has b (fun_signs (slice_get table n)) → Inner w b (Name n ts)
        own o = inl (o.0, lift-name table Funs b n ts refl o.1)

    replaced-signs : (w : Sought) (b : Bool) (t : Term) → Sign table w b (replaced f t) → ((wants_fun w ≡ true) × Sign table Funs b t) ⊎ ((i : ℕ) × (c : Bool) × Sign table (Variable i) c t × Sign table w (both c b) (f i))
    unfolding Replaced Inner
    replaced-signs w b t h = by-children Replaced (λ t' ih. replaced-step t' (sign-view table t') ih) t w b h

-- what stands under a sign has it by a table that has each body's row
module _ (defs : List Def) (table : List DefSigns) (rows : HasRows defs table) where
  body-signs : (w : Sought) (b : Bool) (n : ℕ) (ts : List Term) (def : Def) → slice_get defs n ≡ Some def → Sign table w b (replaced_by ts def.body) → Sign table w b (Name n ts)
  unfolding Sign Has
  body-signs w b n ts def g h =
      let row : (row : DefSigns) × (slice_get table n ≡ Some row) × IsRow table def row = rows n def g in
      ⊎_elim (λ (q : (wants_fun w ≡ true) × Sign table Funs b def.body). lift-name table w b n ts q.0 (subst (Has b) (sym (ap fun_signs row.1)) (row.2.of_funs b q.1)))
      (λ (q : (i : ℕ) × (c : Bool) × Sign table (Variable i) c def.body × Sign table w (both c b) (argument_of ts i)).
      let p : Parameter table n q.0 q.1 = subst (Has q.1) (sym (ap (λ r. variable_signs r q.0) row.1)) (row.2.of_parameters q.0 q.1 q.2) in
      ⊎_elim (λ (a : (t : Term) × (slice_get ts q.0 ≡ Some t) × (argument_of ts q.0 ≡ t)). subst (λ s. Sign table w s (Name n ts)) (both-twice q.1 b) (lift-argument table w n ts q.0 a.0 q.1 (both q.1 b) a.1 p (subst (λ (x : Term). Sign table w (both q.1 b) x) a.2 q.3)))
      (λ (a : argument_of ts q.0 ≡ Any). has-none (both q.1 b) (subst (Has (both q.1 b)) (ap (signs_in table w) a ∙ Laws.signs-Any table w) q.3))
      (argument-there ts q.0))
      (replaced-signs table (argument_of ts) w b def.body h)

  pub signs-complete : (b : Bool) (part whole : Term) → StandsUnder defs b part whole → (w : Sought) (c : Bool) → Sign table w c part → Sign table w (both b c) whole
  signs-complete _ _ _ (itself t) w c h = h
  signs-complete _ _ _ (in_child odd part child whole k s) w c h = lift-child table w (both odd c) whole child k (signs-complete odd part child s w c h)
  signs-complete _ _ _ (in_not odd part negated whole e s) w c h = subst (λ (x : Term). Sign table w (both (not odd) c) x) (sym e) (subst (λ d. Sign table w d (Not negated)) (both-not odd c) (lift-not table w (both odd c) negated (signs-complete odd part negated s w c h)))
  signs-complete _ _ _ (in_body odd part whole n arguments def e g s) w c h = subst (λ (x : Term). Sign table w (both odd c) x) (sym e) (body-signs w (both odd c) n arguments def g (signs-complete odd part (replaced_by arguments def.body) s w c h))

module _ (defs : List Def) (table : List DefSigns) (is : IsSignTable defs table) where
  pub signed-well : (t : Term) → NamesAreDefined defs t → (signs_in table FunsAndVariables t).odd ≡ false → IsWellSigned defs t
  unfolding Sign Has
  signed-well t names e = record {
    names_defined = names;
    no_odd_fun = λ ps r s. apart (signs-complete defs table is.1 true (Fun ps r) t s FunsAndVariables false (fun-itself table FunsAndVariables ps r refl));
    no_odd_variable = λ a s. apart (signs-complete defs table is.1 true (Var a) t s FunsAndVariables false (variable-itself table FunsAndVariables a refl));
  }
    where
      apart : (signs_in table FunsAndVariables t).odd ≡ true → ⊥
      apart q = cc

  pub well-signed : (t : Term) → IsWellSigned defs t → (signs_in table FunsAndVariables t).odd ≡ false
  unfolding Sign Has
  well-signed t right = go (signs_in table FunsAndVariables t).odd refl
    where
      go : (b : Bool) → (signs_in table FunsAndVariables t).odd ≡ b → b ≡ false
      go false e = refl
      go true e =
          let s : SoughtStands defs FunsAndVariables true t = signs-sound defs table is.0 FunsAndVariables true t e in
          absurd (⊎_elim (λ (p : (ps : List Term) × (r : Term) × (s.0 ≡ Fun ps r)). right.no_odd_fun p.0 p.1 (subst (λ (x : Term). StandsUnder defs true x t) p.2 s.2)) (λ (p : (i : ℕ) × (s.0 ≡ Var i)). right.no_odd_variable p.0 (subst (λ (x : Term). StandsUnder defs true x t) p.1 s.2)) s.1)

  pub signed-where-named : (t : Term) → undefined_in defs t ≡ Nothing → (b : Bool) → b ≡ not (signs_in table FunsAndVariables t).odd → IsTrue b ↔ IsWellSigned defs t
  signed-where-named t e b q = (λ h. signed-well t (none-defined defs t e) (even (signs_in table FunsAndVariables t).odd (sym q ∙ h)), λ right. q ∙ ap not (well-signed t right))
    where
      even : (o : Bool) → not o ≡ true → o ≡ false
      even false h = refl
      even true h = absurd (cc)

  pub unsigned-where-unnamed : {A : Type 0} (t : Term) (n : ℕ) → undefined_in defs t ≡ Some n → IsWellSigned defs t → A
  unsigned-where-unnamed t n e right = let q : undefined_in defs t ≡ Nothing = defined-none defs t right.names_defined in absurd (cc)
