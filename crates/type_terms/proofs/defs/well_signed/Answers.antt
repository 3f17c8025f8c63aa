use Rattle.std.proofs.Common.{◌≡◌, ◌∙◌, sym, subst, ap, List}
use Rattle.std.specs.Prelude.{Some, None as Nothing, not, IsTrue, ◌↔◌}
use Rattle.type_terms.specs.declared.term.Def.{Def}
use Rattle.type_terms.specs.declared.sign_search.Signs.{Signs}
use Rattle.type_terms.specs.declared.sign_search.DefSigns.{DefSigns}
use Rattle.type_terms.specs.declared.sign_search.Sought.TheVariants.{FunsAndVariables}
use Rattle.type_terms.specs.Signs.{IsWellSigned}
use Rattle.type_terms.specs.SignTables.{signs_in}
use Rattle.type_terms.specs.Undefined.{undefined_in}
use Rattle.type_terms.proofs.SignMeaning.{signed-where-named, unsigned-where-unnamed}
use Rattle.type_terms.proofs.defs.well_signed.Goals as goal

pub returns-in-None : goal.returns-in-None
returns-in-None c =
    subst (λ (d : List Def). IsTrue (not c.signs_in.result.odd) ↔ IsWellSigned d c.args.term.now) c.defs.view_is
    (signed-where-named c.defs.inside.list c.defs.inside.signs c.defs.invariant.1 c.args.term.now (subst (λ (l : List Def). undefined_in l c.args.term.now ≡ Nothing) c.as_slice.ensures (sym c.undefined_in.ensures ∙ c.in-None.is)) (not c.signs_in.result.odd)
    (ap (λ (s : Signs). not s.odd) (c.signs_in.ensures ∙ ap (λ (t : List DefSigns). signs_in t FunsAndVariables c.args.term.now) c.as_slice-in-None.ensures)))

pub returns-in-Some : goal.returns-in-Some
returns-in-Some c = (
  (λ e. absurd (cc)),
  (λ right. unsigned-where-unnamed c.defs.inside.list c.defs.inside.signs c.defs.invariant.1 c.args.term.now c.in-Some.field-0 (subst (λ (l : List Def). undefined_in l c.args.term.now ≡ Some c.in-Some.field-0) c.as_slice.ensures (sym c.undefined_in.ensures ∙ c.in-Some.is)) (subst (λ (d : List Def). IsWellSigned d c.args.term.now) (sym c.defs.view_is) right)),
)
