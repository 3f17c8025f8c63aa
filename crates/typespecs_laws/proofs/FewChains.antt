-- Over regular definitions finitely many instances of names occur in a term. Each is the end of a chain of names, the first of which stands in the term, and each other one in the body of the one before, with that one's arguments put in. Where a number comes again in a chain, the arguments between don't change, so that the chain can be cut; and a chain in which no number comes again has at most as many names as there are definitions.
use Rattle.std.proofs.Common.{◌≡◌, refl, sym, ◌∙◌, ap, subst, ⊎_elim, ◌⊎◌, inl, inr, ℕ, zero, suc, ◌<◌, ◌≤◌, List, [], ◌∷◌, ◌++◌, map, length, get_or, Bool, true, false, nat_eq, arith}
use Rattle.std.specs.Prelude.{Option, Some, None as Nothing, slice_get, ◌||◌}
use Rattle.std.specs.List.{Contains, list_any, IsDistinct, AllByRecursion}
use Rattle.std.proofs.lemmas.Bool.{false≢true, true≢false, eqb-true}
use Rattle.std.proofs.lemmas.List.{length-map}
use Rattle.std.proofs.lemmas.Map.Steps.{length-le_from_distinct_below}
use Rattle.type_terms.specs.Definitions.{NamesAreDefined, VariablesBelow}
use Rattle.type_terms.specs.Parts.{children, IsPart, itself, in_child}
use Rattle.type_terms.specs.Regular.{LeadsTo, mentions, onward, AreParameters, AreRegular}
use Rattle.type_terms.specs.Replacement.{argument_of, replaced, replaced_by}
use Rattle.type_terms.specs.declared.term.Def.{Def}
use Rattle.type_terms.specs.declared.term.Term.{Term, Any, Var, Name}
use Rattle.type_terms.proofs.PartLaws.{contains-at, children-Name, number_of}
use Rattle.type_terms.proofs.ReplacementParts as Parts
use Rattle.erl_tree.specs.Lists.{Among}
use Rattle.typespecs_laws.specs.Occurring.{Occurs, stands, in_body, HasFinitelyManyInstances}
use Rattle.typespecs_laws.proofs.Gathered.{IsListed, FromSome, gathered, among-mapped, parts-listed}
use Rattle.typespecs_laws.proofs.ReplacedNames.{part-through, names-of-replaced}
use Rattle.typespecs_lemmas.proofs.AlikeTypes.{among-left, among-right}

-- ---- lists

same-some : {A : Type 0} (o : Option A) (x y : A) → o ≡ Some x → o ≡ Some y → x ≡ y
same-some o x y e f = cc

get-below : {A : Type 0} (xs : List A) (n : ℕ) (x : A) → slice_get xs n ≡ Some x → n < length xs
get-below [] n x e = absurd (cc)
get-below (y ∷ ys) zero x e = omega arith
get-below (y ∷ ys) (suc n) x e = let l : n < length ys = get-below ys n x e in omega arith

contains-get : {A : Type 0} (xs : List A) (i : ℕ) (other : A) → i < length xs → Contains xs (get_or xs i other)
contains-get [] i other l = absurd (omega arith)
contains-get (x ∷ xs) zero other l = (zero, omega arith, refl)
contains-get (x ∷ xs) (suc i) other l = let r : Contains xs (get_or xs i other) = contains-get xs i other (omega arith) in (suc r.0, omega arith, r.2)

pointwise : (g : Term → Term) (own b : List Term) → length own ≡ length b → ((i : ℕ) (u : Term) → slice_get own i ≡ Some u → g u ≡ get_or b i Any) → map g own ≡ b
pointwise g [] [] e h = refl
pointwise g [] (x ∷ b) e h = absurd (omega arith)
pointwise g (u ∷ own) [] e h = absurd (omega arith)
pointwise g (u ∷ own) (x ∷ b) e h =
    let same : length own ≡ length b = omega arith in
    ap (λ (v : Term). v ∷ map g own) (h zero u refl) ∙ ap (λ (l : List Term). x ∷ l) (pointwise g own b same (λ i v q. h (suc i) v q))

-- putting arguments in for parameters gives the arguments
parameters-replaced : (b own : List Term) (count : ℕ) → AreParameters count own → count ≡ length b → map (replaced (argument_of b)) own ≡ b
parameters-replaced b own count p e = pointwise (replaced (argument_of b)) own b (p.0 ∙ e) (λ i u q. ap (replaced (argument_of b)) (p.1 i u q))

-- ---- chains

-- the second name stands in the body of the first, with its arguments put in
pub record IsStep (defs : List Def) (n : ℕ) (b : List Term) (m : ℕ) (c : List Term) : Type 0 where
  pub def : Def
  pub defined : slice_get defs n ≡ Some def
  pub own : List Term
  pub part : IsPart (Name m own) def.body
  pub passed : c ≡ map (replaced (argument_of b)) own

module _ (defs : List Def) (t : Term) where
  -- a name is the end of a chain of names with these numbers, the last first, in which no number comes again
  abbrev IsChain : List ℕ → ℕ → List Term → Type 0
  IsChain [] n b = IsPart (Name n b) t
  IsChain (k ∷ ns) n b = (a : List Term) × IsChain ns k a × IsStep defs k a n b × (list_any (nat_eq n) (k ∷ ns) ≡ false)

  abbrev IsReached : ℕ → List Term → Type 0
  IsReached n b = (ns : List ℕ) × IsChain ns n b

  step-leads : (n m : ℕ) (b c : List Term) → IsStep defs n b m c → LeadsTo defs n m
  step-leads n m b c s = mentions n m s.def s.own s.defined s.part

  -- what comes earlier in a chain leads to its end
  leads-here : (ns : List ℕ) (n : ℕ) (b : List Term) → IsChain ns n b → (m : ℕ) → list_any (nat_eq m) (n ∷ ns) ≡ true → (m ≡ n) ⊎ LeadsTo defs m n
  leads-here [] n b c m e = go (nat_eq m n) refl e
    where
      go : (x : Bool) → nat_eq m n ≡ x → (x || false) ≡ true → (m ≡ n) ⊎ LeadsTo defs m n
      go true q r = inl (eqb-true m n q)
      go false q r = absurd (false≢true r)
  leads-here (k ∷ ns) n b c m e = go (nat_eq m n) refl e (leads-here ns k c.0 c.1 m)
    where
      go : (x : Bool) → nat_eq m n ≡ x → (x || list_any (nat_eq m) (k ∷ ns)) ≡ true → (list_any (nat_eq m) (k ∷ ns) ≡ true → (m ≡ k) ⊎ LeadsTo defs m k) → (m ≡ n) ⊎ LeadsTo defs m n
      go true q r more = inl (eqb-true m n q)
      go false q r more = inr (⊎_elim (λ (s : m ≡ k). subst (λ (x : ℕ). LeadsTo defs x n) (sym s) (step-leads k n c.0 b c.2)) (λ l. onward m k n l (step-leads k n c.0 b c.2)) (more r))

  -- ---- numbers in a chain are those of definitions, and none comes again

  none-apart : (n : ℕ) (ns : List ℕ) → list_any (nat_eq n) ns ≡ false → AllByRecursion (λ y. nat_eq n y ≡ false) ns
  none-apart n [] e = tt
  none-apart n (m ∷ ns) e = go (nat_eq n m) refl e (none-apart n ns)
    where
      go : (x : Bool) → nat_eq n m ≡ x → (x || list_any (nat_eq n) ns) ≡ false → (list_any (nat_eq n) ns ≡ false → AllByRecursion (λ y. nat_eq n y ≡ false) ns) → AllByRecursion (λ y. nat_eq n y ≡ false) (m ∷ ns)
      go true q r more = absurd (true≢false r)
      go false q r more = (q, more r)

  distinct : (ns : List ℕ) (n : ℕ) (b : List Term) → IsChain ns n b → IsDistinct nat_eq (n ∷ ns)
  unfolding IsDistinct
  distinct [] n b c = (tt, tt)
  distinct (k ∷ ns) n b c = (none-apart n (k ∷ ns) c.3, distinct ns k c.0 c.1)

  module _ (names_defined : (def : Def) → Contains defs def → NamesAreDefined defs def.body) (names : NamesAreDefined defs t) where
    abbrev IsDefined : ℕ → List Term → Type 0
    IsDefined n b = (def : Def) × (slice_get defs n ≡ Some def) × (def.params ≡ length b)

    chain-defined : (ns : List ℕ) (n : ℕ) (b : List Term) → IsChain ns n b → IsDefined n b
    chain-defined [] n b c = names n b c
    chain-defined (k ∷ ns) n b c =
        let s : IsStep defs k c.0 n b = c.2 in
        let d : IsDefined n s.own = names_defined s.def (contains-at defs k s.def s.defined) n s.own s.part in
        (d.0, d.1, d.2 ∙ sym (ap length s.passed ∙ length-map s.own (replaced (argument_of c.0))))

    below : (ns : List ℕ) (n : ℕ) (b : List Term) → IsChain ns n b → (q : ℕ) → list_any (nat_eq q) (n ∷ ns) ≡ true → q < length defs
    below [] n b c q e = go (nat_eq q n) refl e
      where
        here : n < length defs
        here = let d : IsDefined n b = chain-defined [] n b c in get-below defs n d.0 d.1

        go : (x : Bool) → nat_eq q n ≡ x → (x || false) ≡ true → q < length defs
        go true r s = subst (λ (y : ℕ). y < length defs) (sym (eqb-true q n r)) here
        go false r s = absurd (false≢true s)
    below (k ∷ ns) n b c q e = go (nat_eq q n) refl e (below ns k c.0 c.1 q)
      where
        here : n < length defs
        here = let d : IsDefined n b = chain-defined (k ∷ ns) n b c in get-below defs n d.0 d.1

        go : (x : Bool) → nat_eq q n ≡ x → (x || list_any (nat_eq q) (k ∷ ns)) ≡ true → (list_any (nat_eq q) (k ∷ ns) ≡ true → q < length defs) → q < length defs
        go true r s more = subst (λ (y : ℕ). y < length defs) (sym (eqb-true q n r)) here
        go false r s more = more s

    chain-short : (ns : List ℕ) (n : ℕ) (b : List Term) → IsChain ns n b → length ns ≤ length defs
    chain-short ns n b c = let l : length (n ∷ ns) ≤ length defs = length-le_from_distinct_below (n ∷ ns) (length defs) (distinct ns n b c) (below ns n b c) in omega arith

    module _ (regular : AreRegular defs) where
      -- a step that leads back keeps the arguments
      kept : (n m : ℕ) (b c : List Term) → IsStep defs n b m c → IsDefined n b → LeadsTo defs m n → c ≡ b
      kept n m b c s d l =
          let same : d.0 ≡ s.def = same-some (slice_get defs n) d.0 s.def d.1 s.defined in
          s.passed ∙ parameters-replaced b s.own s.def.params (regular n m s.def s.own s.defined s.part l) (ap (λ (x : Def). x.params) (sym same) ∙ d.2)

      -- a chain whose end leads back to a number in it can be cut there
      cut : (ns : List ℕ) (n : ℕ) (b : List Term) → IsChain ns n b → (m : ℕ) → list_any (nat_eq m) (n ∷ ns) ≡ true → LeadsTo defs n m → IsReached m b
      cut [] n b c m e l = go (nat_eq m n) refl e
        where
          go : (x : Bool) → nat_eq m n ≡ x → (x || false) ≡ true → IsReached m b
          go true q r = subst (λ (x : ℕ). IsReached x b) (sym (eqb-true m n q)) ([], c)
          go false q r = absurd (false≢true r)
      cut (k ∷ ns) n b c m e l = go (nat_eq m n) refl e (cut ns k c.0 c.1 m)
        where
          go : (x : Bool) → nat_eq m n ≡ x → (x || list_any (nat_eq m) (k ∷ ns)) ≡ true → (list_any (nat_eq m) (k ∷ ns) ≡ true → LeadsTo defs k m → IsReached m c.0) → IsReached m b
          go true q r more = subst (λ (x : ℕ). IsReached x b) (sym (eqb-true m n q)) (k ∷ ns, c)
          go false q r more =
              let back : LeadsTo defs n k = ⊎_elim (λ (s : m ≡ k). subst (λ (x : ℕ). LeadsTo defs n x) s l) (λ s. onward n m k l s) (leads-here ns k c.0 c.1 m r) in
              let same : b ≡ c.0 = kept k n c.0 b c.2 (chain-defined ns k c.0 c.1) back in
              subst (λ (x : List Term). IsReached m x) (sym same) (more r (onward k n m (step-leads k n c.0 b c.2) l))

      goes-on : (n m : ℕ) (b c : List Term) → IsReached n b → IsStep defs n b m c → IsReached m c
      goes-on n m b c r s = go (list_any (nat_eq m) (n ∷ r.0)) refl
        where
          leads : LeadsTo defs n m
          leads = step-leads n m b c s

          go : (x : Bool) → list_any (nat_eq m) (n ∷ r.0) ≡ x → IsReached m c
          go false e = (n ∷ r.0, (b, r.1, s, e))
          go true e =
              let back : LeadsTo defs m n = ⊎_elim (λ (q : m ≡ n). subst (λ (x : ℕ). LeadsTo defs x n) (sym q) (subst (λ (x : ℕ). LeadsTo defs n x) q leads)) (λ l. l) (leads-here r.0 n b r.1 m e) in
              let same : c ≡ b = kept n m b c s (chain-defined r.0 n b r.1) back in
              subst (λ (x : List Term). IsReached m x) (sym same) (cut r.0 n b r.1 m e leads)

      module _ (own_variables : (def : Def) → Contains defs def → VariablesBelow def.params def.body) where
        -- each name in what occurs is reached
        occurring : (u : Term) → Occurs defs t u → (m : ℕ) (args : List Term) → IsPart (Name m args) u → IsReached m args
        occurring _ (stands u p) m args q = ([], part-through (Name m args) u t q p)
        occurring _ (in_body n b def u o g p) m args q = go (occurring (Name n b) o)
          where
            go : ((m : ℕ) (args : List Term) → IsPart (Name m args) (Name n b) → IsReached m args) → IsReached m args
            go before =
                let here : IsReached n b = before n b (itself (Name n b)) in
                let d : IsDefined n b = chain-defined here.0 n b here.1 in
                let same : d.0 ≡ def = same-some (slice_get defs n) d.0 def d.1 g in
                let many : def.params ≡ length b = ap (λ (x : Def). x.params) (sym same) ∙ d.2 in
                ⊎_elim
                (λ (x : (own : List Term) × IsPart (Name m own) def.body × (args ≡ map (replaced (argument_of b)) own)). goes-on n m b args here (record { def = def; defined = g; own = x.0; part = x.1; passed = x.2 }))
                (λ (x : (i : ℕ) × IsPart (Var i) def.body × IsPart (Name m args) (argument_of b i)).
                let low : x.0 < def.params = own_variables def (contains-at defs n def g) x.0 x.1 in
                let inside : x.0 < length b = omega arith in
                before m args (in_child (Name m args) (get_or b x.0 Any) (Name n b) (subst (λ (l : List Term). Contains l (get_or b x.0 Any)) (sym (children-Name n b)) (contains-get b x.0 Any inside)) x.2))
                (names-of-replaced (argument_of b) def.body m args (part-through (Name m args) u (replaced_by b def.body) q p))

    -- ---- what chains end in, by their length

    -- a name comes one step after a term that is a name
    pub record ComesNext (x y : Term) : Type 0 where
      pub n : ℕ
      pub b : List Term
      pub m : ℕ
      pub c : List Term
      pub before : x ≡ Name n b
      pub after : y ≡ Name m c
      pub step : IsStep defs n b m c

    nexts : (x : Term) → IsListed (ComesNext x)
    nexts x = go (slice_get defs (number_of x)) refl
      where
        at : (y : Term) (z : ComesNext x y) → slice_get defs (number_of x) ≡ Some z.step.def
        at y z = ap (λ (w : Term). slice_get defs (number_of w)) z.before ∙ z.step.defined

        go : (o : Option Def) → slice_get defs (number_of x) ≡ o → IsListed (ComesNext x)
        go Nothing e = record { list = []; holds_all = λ y z. none (sym e ∙ at y z) }
          where
            none : {A : Type 0} {d : Def} → Nothing ≡ Some d → A
            none q = absurd (cc)
        go (Some def) e =
            let parts : IsListed (λ u. IsPart u def.body) = parts-listed def.body in
            record {
              list = map (replaced_by (children x)) parts.list;
              holds_all = λ y z.
                  let same : z.step.def ≡ def = same-some (slice_get defs (number_of x)) z.step.def def (at y z) e in
                  let b_is : z.b ≡ children x = sym (ap children z.before ∙ children-Name z.n z.b) in
                  let y_is : replaced_by (children x) (Name z.m z.step.own) ≡ y = ap (λ (l : List Term). replaced_by l (Name z.m z.step.own)) (sym b_is) ∙ (Parts.replaced-Name (argument_of z.b) z.m z.step.own ∙ (ap (Name z.m) (sym z.step.passed) ∙ sym z.after)) in
                  subst (λ (w : Term). Among w (map (replaced_by (children x)) parts.list)) y_is
                  (among-mapped (replaced_by (children x)) (Name z.m z.step.own) parts.list (parts.holds_all (Name z.m z.step.own) (subst (λ (d : Def). IsPart (Name z.m z.step.own) d.body) same z.step.part)));
            }

    -- the ends of chains with so many numbers before
    pub record EndsChain (k : ℕ) (y : Term) : Type 0 where
      pub numbers : List ℕ
      pub n : ℕ
      pub b : List Term
      pub is : y ≡ Name n b
      pub chain : IsChain numbers n b
      pub short : length numbers ≤ k

    first : (ns : List ℕ) (n : ℕ) (b : List Term) → IsChain ns n b → length ns ≤ 0 → IsPart (Name n b) t
    first [] n b c l = c
    first (k ∷ ns) n b c l = absurd (omega arith)

    later : (k : ℕ) (before : IsListed (EndsChain k)) (all : IsListed (FromSome ComesNext before.list)) (parts : IsListed (λ u. IsPart u t)) (ns : List ℕ) (n : ℕ) (b : List Term) → IsChain ns n b → length ns ≤ suc k → Among (Name n b) parts.list ⊎ Among (Name n b) all.list
    later k before all parts [] n b c l = inl (parts.holds_all (Name n b) c)
    later k before all parts (i ∷ ns) n b c l = inr (all.holds_all (Name n b) (
      Name i c.0,
      before.holds_all (Name i c.0) (record { numbers = ns; n = i; b = c.0; is = refl; chain = c.1; short = omega arith }),
      record { n = i; b = c.0; m = n; c = b; before = refl; after = refl; step = c.2 },
    ))

    ends : (k : ℕ) → IsListed (EndsChain k)
    ends zero =
        let parts : IsListed (λ u. IsPart u t) = parts-listed t in
        record { list = parts.list; holds_all = λ y z. subst (λ (w : Term). Among w parts.list) (sym z.is) (parts.holds_all (Name z.n z.b) (first z.numbers z.n z.b z.chain z.short)) }
    ends (suc k) =
        let parts : IsListed (λ u. IsPart u t) = parts-listed t in
        let before : IsListed (EndsChain k) = ends k in
        let all : IsListed (FromSome ComesNext before.list) = gathered ComesNext before.list (λ x a. nexts x) in
        record {
          list = parts.list ++ all.list;
          holds_all = λ y z. subst (λ (w : Term). Among w (parts.list ++ all.list)) (sym z.is)
              (⊎_elim (λ a. among-left (Name z.n z.b) parts.list all.list a) (λ a. among-right (Name z.n z.b) parts.list all.list a) (later k before all parts z.numbers z.n z.b z.chain z.short));
        }

-- a term over regular definitions has finitely many instances of names
pub finitely-many : (defs : List Def) → AreRegular defs → ((def : Def) → Contains defs def → NamesAreDefined defs def.body) → ((def : Def) → Contains defs def → VariablesBelow def.params def.body) → (t : Term) → NamesAreDefined defs t → HasFinitelyManyInstances defs t
finitely-many defs regular names_defined own_variables t names = record {
  instances = (ends defs t names_defined names (length defs)).list;
  are_all = λ n b o.
      let r : IsReached defs t n b = occurring defs t names_defined names regular own_variables (Name n b) o n b (itself (Name n b)) in
      (ends defs t names_defined names (length defs)).holds_all (Name n b) (record { numbers = r.0; n = n; b = b; is = refl; chain = r.1; short = chain-short defs t names_defined names r.0 n b r.1 });
}
