-- Steps that note faults one after the other, each of which may run out of memory.
use Rattle.std.proofs.Common.{◌≡◌, ◌∙◌, refl, ap, sym, subst, List, [], ◌++◌, Option, append-nil}
use Rattle.std.specs.Prelude.{Result, Ok, Err, OnOk}
use Rattle.erl_tree.specs.declared.token.Place.{Place}
use Rattle.erl_tree.specs.declared.pattern.PatternKind.{PatternKind, out-PatternKind}
use Rattle.erl_tree.specs.declared.pattern.PatternKind.TheOpen as P
use Rattle.erl_tree.specs.declared.expr.ExprKind.{ExprKind, out-ExprKind}
use Rattle.erl_tree.specs.declared.expr.ItemKind.{ItemKind, out-ItemKind}
use Rattle.erl_tree.specs.declared.expr.QualifierKind.{QualifierKind, out-QualifierKind}
use Rattle.erl_tree.specs.declared.expr.AssocKind.{AssocKind}
use Rattle.erl_tree.specs.declared.expr.CatchKind.{CatchKind}
use Rattle.erl_tree.specs.declared.expr.ClauseKind.{ClauseKind}
use Rattle.erl_tree.specs.declared.expr.ExprKind.TheOpen as E
use Rattle.erl_tree.specs.declared.form.RecDefKind.{RecDefKind}
use Rattle.erl_tree.specs.Functions.{FunctionId}
use Rattle.erl_scope_rules.specs.declared.fault.PlacedFault.{PlacedFault}
use Rattle.erl_scope_rules.specs.ScopeFaults.{pattern_kind_faults}
use Rattle.erl_scope_rules.specs.Earliest.{earliest}
use Rattle.erl_scope_rules.proofs.EarliestLaws.{earliest-append}
use Rattle.erl_scope_faults.specs.PartFaults.{ExprLevel, plain_level_faults, construct_level_faults, item_level_faults, qualifier_level_faults}
use Rattle.erl_scope_faults.proofs.FaultLevels.{pattern_level_faults, pattern-out}

-- what is noted at the end, where nothing ran out
abbrev pub First : Type 0
First = Option PlacedFault

pub noted_same : (old new : First) (fs gs : List PlacedFault) → fs ≡ gs → new ≡ earliest old fs → new ≡ earliest old gs
noted_same old new fs gs e h = h ∙ ap (earliest old) e

-- one step, where nothing follows
pub noted_one : (old new : First) (fs ps whole : List PlacedFault) → fs ≡ ps → ps ++ [] ≡ whole → new ≡ earliest old fs → new ≡ earliest old whole
noted_one old new fs ps whole e is h = h ∙ ap (earliest old) (e ∙ (sym (append-nil ps) ∙ is))

-- two steps
pub noted_two : (old mid new : First) (fs gs ps qs whole : List PlacedFault) → fs ≡ ps → gs ≡ qs → ps ++ qs ≡ whole → mid ≡ earliest old fs → new ≡ earliest mid gs → new ≡ earliest old whole
noted_two old mid new fs gs ps qs whole e f is h k = k ∙ ((λ j. earliest (h j) (f j)) ∙ (ap (λ xs. earliest (earliest old xs) qs) e ∙ (sym (earliest-append old ps qs) ∙ ap (earliest old) is)))

module _ {A E : Type 0} (r : Result A E) where
  pub if_same : (old new : First) (fs gs : List PlacedFault) → fs ≡ gs → OnOk r (new ≡ earliest old fs) → OnOk r (new ≡ earliest old gs)
  if_same old new fs gs e h = subst (λ xs. OnOk r (new ≡ earliest old xs)) e h

  pub if_two : (old mid new : First) (fs gs ps qs whole : List PlacedFault) → fs ≡ ps → gs ≡ qs → ps ++ qs ≡ whole → mid ≡ earliest old fs → OnOk r (new ≡ earliest mid gs) → OnOk r (new ≡ earliest old whole)
  if_two old mid new fs gs ps qs whole e f is h k =
      subst (λ x. OnOk r (new ≡ x)) ((λ j. earliest (h j) (f j)) ∙ (ap (λ xs. earliest (earliest old xs) qs) e ∙ (sym (earliest-append old ps qs) ∙ ap (earliest old) is))) k

  pub if_three : (old one two new : First) (fs gs hs ps qs rs whole : List PlacedFault) → fs ≡ ps → gs ≡ qs → hs ≡ rs → ps ++ (qs ++ rs) ≡ whole → one ≡ earliest old fs → two ≡ earliest one gs → OnOk r (new ≡ earliest two hs) → OnOk r (new ≡ earliest old whole)
  if_three old one two new fs gs hs ps qs rs whole e f g is h k l = if_two old one new fs (qs ++ rs) ps (qs ++ rs) whole e refl is h (if_two one two new gs hs qs rs (qs ++ rs) f g refl k l)

  pub if_four : (old one two three new : First) (fs gs hs is' ps qs rs ss whole : List PlacedFault) → fs ≡ ps → gs ≡ qs → hs ≡ rs → is' ≡ ss → ps ++ (qs ++ (rs ++ ss)) ≡ whole
      → one ≡ earliest old fs → two ≡ earliest one gs → three ≡ earliest two hs → OnOk r (new ≡ earliest three is') → OnOk r (new ≡ earliest old whole)
  if_four old one two three new fs gs hs is' ps qs rs ss whole e f g i is h k l m =
      if_two old one new fs (qs ++ (rs ++ ss)) ps (qs ++ (rs ++ ss)) whole e refl is h (if_three one two three new gs hs is' qs rs ss (qs ++ (rs ++ ss)) f g i refl k l m)

-- three steps, where nothing follows
pub noted_three : (old one two new : First) (fs gs hs ps qs rs whole : List PlacedFault) → fs ≡ ps → gs ≡ qs → hs ≡ rs → ps ++ (qs ++ (rs ++ [])) ≡ whole → one ≡ earliest old fs → two ≡ earliest one gs → new ≡ earliest two hs → new ≡ earliest old whole
noted_three old one two new fs gs hs ps qs rs whole e f g is h k l =
    noted_two old one new fs (qs ++ (rs ++ [])) ps (qs ++ (rs ++ [])) whole e refl is h (noted_two one two new gs hs qs rs (qs ++ (rs ++ [])) f g (ap (λ xs. qs ++ xs) (sym (append-nil rs))) k l)

-- one level of a pattern that is known
pub pattern-is : (functions : List FunctionId) (records : List RecDefKind) (place : Place) (k v : PatternKind) (o : P.PatternKind-F PatternKind) → k ≡ v → out-PatternKind v ≡ o → pattern_level_faults functions records o place ≡ pattern_kind_faults functions records k place
pattern-is functions records place k v o is outs = sym (ap (λ j. pattern_kind_faults functions records j place) is ∙ ((λ j. pattern-out functions records v j place) ∙ ap (λ l. pattern_level_faults functions records l place) outs))

-- one level of an expression that is known
module _ (functions : List FunctionId) (records : List RecDefKind) (place : Place) (k v : ExprKind) (o : ExprLevel) (is : k ≡ v) (outs : out-ExprKind v ≡ o) where
  pub plain-is : plain_level_faults functions records o place ≡ plain_level_faults functions records (out-ExprKind k) place
  plain-is = sym (ap (λ l. plain_level_faults functions records l place) (ap out-ExprKind is ∙ outs))

  pub construct-is : construct_level_faults functions records o place ≡ construct_level_faults functions records (out-ExprKind k) place
  construct-is = sym (ap (λ l. construct_level_faults functions records l place) (ap out-ExprKind is ∙ outs))

-- an element of a body, and a qualifier, that is known
pub item-is : (functions : List FunctionId) (records : List RecDefKind) (j k v : ItemKind) (o : E.ItemKind-F ExprKind ItemKind QualifierKind AssocKind CatchKind ClauseKind) → k ≡ j → k ≡ v → out-ItemKind v ≡ o → item_level_faults functions records o ≡ item_level_faults functions records (out-ItemKind j)
item-is functions records j k v o same is outs = ap (item_level_faults functions records) (sym outs ∙ ap out-ItemKind (sym is ∙ same))

pub qualifier-is : (functions : List FunctionId) (records : List RecDefKind) (j k v : QualifierKind) (o : E.QualifierKind-F ExprKind ItemKind QualifierKind AssocKind CatchKind ClauseKind) → k ≡ j → k ≡ v → out-QualifierKind v ≡ o → qualifier_level_faults functions records o ≡ qualifier_level_faults functions records (out-QualifierKind j)
qualifier-is functions records j k v o same is outs = ap (qualifier_level_faults functions records) (sym outs ∙ ap out-QualifierKind (sym is ∙ same))

pub given : {A E : Type 0} (r : Result A E) (P : Type 0) → P → OnOk r P
given (Ok a) P h = h
given (Err e) P h = tt
