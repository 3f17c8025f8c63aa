use Rattle.std.proofs.Common.{rules, ◌≡◌, ◌∙◌, sym, subst, refl, length, List, ℕ, ◌<◌, get_or}
use Rattle.std.specs.Prelude.{Some, slice_get}
use Rattle.std.proofs.lemmas.Option.{slice_get_read}
use Rattle.type_terms.specs.declared.term.Def.{Def}
use Rattle.type_terms.specs.declared.sign_search.DefSigns.{DefSigns}
use Rattle.type_terms.specs.declared.sign_search.Sought.TheVariants.{Funs, Variable}
use Rattle.type_terms.specs.SignTables.{IsRow, IsTableOf, no_signs, signs_in}
use Rattle.type_terms.proofs.SignTableSteps.{set-table, covering-row, some-inj, not-false}
use Rattle.type_terms.proofs.sign_table.raise_at.Goals as goal

pub returns-then-is_new-clause-said : goal.returns-then-is_new-clause-said
returns-then-is_new-clause-said c =
    let l : c.args.number < length c.args.defs.now = search rules in
    let d : slice_get c.args.defs.now c.args.number ≡ Some c.index-defs-number.result = slice_get_read c.args.defs.now _ c.args.number c.index-defs-number.result refl l c.index-defs-number.is in
    subst (λ (t : List DefSigns). IsTableOf c.args.defs.now t) (sym c.set.ensures)
    (set-table c.args.defs.now c.args.table.now c.requires c.args.number c.index-defs-number.result c.in_ok-row.row d
    (subst (λ (t : List DefSigns). c.in_ok-row.row.funs ≡ signs_in t Funs c.index-defs-number.result.body) c.as_slice-rows.ensures c.in_ok-row.ensures.funs)
    (subst (λ (t : List DefSigns). (i : ℕ) → get_or c.in_ok-row.row.parameters i no_signs ≡ signs_in t (Variable i) c.index-defs-number.result.body) c.as_slice-rows.ensures c.in_ok-row.ensures.parameters))

pub returns-else-is_new-clause-row : goal.returns-else-is_new-clause-row
returns-else-is_new-clause-row c =
    let l : c.args.number < length c.args.defs.now = search rules in
    let d : slice_get c.args.defs.now c.args.number ≡ Some c.index-defs-number.result = slice_get_read c.args.defs.now _ c.args.number c.index-defs-number.result refl l c.index-defs-number.is in
    let k : c.args.number < length c.as_slice-rows.result.now = search rules in
    let g : slice_get c.args.table.now c.args.number ≡ Some c.index-rows-number.result = subst (λ (t : List DefSigns). slice_get t c.args.number ≡ Some c.index-rows-number.result) c.as_slice-rows.ensures (slice_get_read c.as_slice-rows.result.now _ c.args.number c.index-rows-number.result refl k c.index-rows-number.is) in
    λ q def e. (
      c.index-rows-number.result,
      g,
      subst (λ (t : List DefSigns). IsRow t def c.index-rows-number.result) c.as_slice-rows.ensures
          (subst (λ (x : Def). IsRow c.as_slice-rows.result.now x c.index-rows-number.result) (some-inj c.index-defs-number.result def (sym d ∙ e))
          (covering-row c.as_slice-rows.result.now c.index-defs-number.result c.index-rows-number.result c.in_ok-row.row c.in_ok-row.ensures.funs c.in_ok-row.ensures.parameters (c.covers-is_new.ensures.funs (not-false c.covers-is_new.result q)) (c.covers-is_new.ensures.parameters (not-false c.covers-is_new.result q)))),
    )
