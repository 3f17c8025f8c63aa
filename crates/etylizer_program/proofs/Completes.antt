-- What the program answers of a text, unless the outside fails or memory runs out.
use Rattle.std.proofs.Common.{◌≡◌, ◌≢◌, ◌∙◌, ◌⊎◌, ◌<◌, ◌≤◌, ℕ, zero, suc, List, [], ◌∷◌, ◌++◌, length, codes, Option, Some, None, Result, Ok, Err, IfOk, IfErr, IsErrOf, IsOk, refl, ap, sym, subst, inl, inr, arith}
use Rattle.erl_tree.specs.Lists.{Every}
use Rattle.erl_tree.specs.declared.form.Module.{Module}
use Rattle.erl_grammar.specs.FormSpelling.{module_tokens}
use Rattle.erl_scope_rules.specs.declared.fault.NameFault.TheVariants as N
use Rattle.erl_scope_rules.specs.declared.fault.PlacedFault.{PlacedFault}
use Rattle.typespecs_rules.specs.declared.fault.TypeFault.TheVariants as T
use Rattle.typespecs_rules.specs.declared.fault.PlacedFault.{PlacedFault as TypePlacedFault}
use Rattle.typespecs_rules.specs.TypeFaults.{fault_at}
use Rattle.typespecs.specs.FaultPlaces.{placed_fault as placed_spec_fault}
use Rattle.text_reader_rules.specs.Readable.{IsReadable}
use Rattle.erl_scope.specs.FaultPlaces.{placed_fault}
use Rattle.flat_modules.specs.FlatModules.{IsFlatModule}
use Rattle.erl_tree.specs.Profile.{IsLexed}
use Rattle.erl_lexer.specs.declared.LexFault.TheVariants as L
use Rattle.cert_checker.specs.Constraints.{Holds, Constraint, owed_of}
use Rattle.etylizer_program.specs.declared.check.Accepted.{Accepted}
use Rattle.etylizer_program.specs.declared.check.Refused.{Refused}
use Rattle.etylizer_program.specs.declared.check.Refused.TheVariants as R
use Rattle.cert_checker.specs.declared.refusal.FirstRefusal.TheVariants as F
use Rattle.etylizer_program.specs.declared.report.Verdict.{Verdict}
use Rattle.etylizer_program.specs.declared.report.Verdict.TheVariants as V
use Rattle.etylizer_program.specs.declared.report.Words.{Words}
use Rattle.etylizer_program.specs.declared.report.Words.TheVariants as W
use Rattle.erl_tree.specs.declared.token.Place.{Place}
use Rattle.tool_io.specs.Outside.{Holdings, Puts}
use Rattle.etylizer_program.specs.Commands.{command_of}
use Rattle.etylizer_program.specs.Report.{report_text}
use Rattle.text_reader.specs.Modules.{text_limit, IsParsedAs, HasNoModule, HasWrongNames, HasWrongSpecs}
use Rattle.text_reader.proofs.Parsed.{spells, same_parsed}
use Rattle.text_reader.proofs.Apart.{no_fault, unexpected_none, outside_none, deep_none, refusal_none, wrong_right, told_right, told_module, told_same, same_fault, specs_right, told_specs_right, told_specs_module, names_first, told_specs_names, told_names_specs, same_spec_fault, told_specs_same}
use Rattle.etylizer_program.specs.Check.{IsNoText, IsNotBuilt, IsNoModuleAnswer, IsWrongNamesAnswer, IsWrongSpecsAnswer, fault_words, spec_fault_words, placed, IsRightText, IsReadAs, IsAcceptedText, IsTextRefusal, IsTextVerdict}
use Rattle.cert_checker.specs.Failures.{ShowsFirstFailure}
use Rattle.etylizer_program.specs.Tool.{IsCheckOf, Judges, NamesText, NamesNoModule, NamesNotBuilt, NamesRightModule, NamesWrongNames, NamesWrongSpecs, verdict_status}

-- ---- texts that are parsed

-- a flat module that a text spells is what it is parsed as
read_parsed : (text : List ℕ) (m : Module) → IsLexed text (module_tokens m) → IsFlatModule m → IsParsedAs text m
read_parsed text m lexed flat = record { lexed = lexed; well_formed = flat.well_formed; within = flat.within }

right_parsed : (text : List ℕ) (right : IsRightText text) → IsParsedAs text right.tree
right_parsed text right = read_parsed text right.tree right.lexed right.flat

-- ---- words

-- a readable module is refused by no words
no_text_none : (text : List ℕ) (m : Module) (place : Place) (words : Words) → IsParsedAs text m → IsReadable m → IsNoText text place words → ⊥
no_text_none text m place W.BadToken p readable is = no_fault text (module_tokens m) (L.BadToken place) p.lexed is
no_text_none text m place W.BadEscape p readable is = no_fault text (module_tokens m) (L.BadEscape place) p.lexed is
no_text_none text m place W.NumberTooWide p readable is = no_fault text (module_tokens m) (L.WideNumber place) p.lexed is
no_text_none text m place (W.OutOfProfile form) p readable (inl is) = no_fault text (module_tokens m) (L.OutOfProfile place form) p.lexed is
no_text_none text m place (W.OutOfProfile form) p readable (inr (inl is)) = outside_none text m place form p is
no_text_none text m place (W.OutOfProfile form) p readable (inr (inr is)) = specs_right text m (fault_at (T.OutOfProfile is.0) place) p readable is.2
no_text_none text m place W.Unexpected p readable is = unexpected_none text m p is
no_text_none text m place W.TooDeep p readable is = deep_none text m place p is
no_text_none text m place W.UnboundVariable p readable is = wrong_right text m (placed N.Unbound place) p readable.right_names is
no_text_none text m place W.UnsafeVariable p readable is = wrong_right text m (placed N.Unsafe place) p readable.right_names is
no_text_none text m place W.NoSuchFunction p readable is = wrong_right text m (placed N.NoSuchFunction place) p readable.right_names is
no_text_none text m place W.TwoFunctions p readable is = wrong_right text m (placed N.TwoFunctions place) p readable.right_names is
no_text_none text m place W.NoSpec p readable is = wrong_right text m (placed N.NoSpec place) p readable.right_names is
no_text_none text m place W.NoSuchRecord p readable is = wrong_right text m (placed N.NoSuchRecord place) p readable.right_names is
no_text_none text m place W.NoSuchField p readable is = wrong_right text m (placed N.NoSuchField place) p readable.right_names is
no_text_none text m place W.Repeated p readable (inl is) = wrong_right text m (placed N.Repeated place) p readable.right_names is
no_text_none text m place W.Repeated p readable (inr is) = specs_right text m (fault_at T.Repeated place) p readable is
no_text_none text m place W.ArityDiffers p readable (inl is) = wrong_right text m (placed N.ArityDiffers place) p readable.right_names is
no_text_none text m place W.ArityDiffers p readable (inr is) = specs_right text m (fault_at T.ArityDiffers place) p readable is
no_text_none text m place W.NoSuchType p readable is = specs_right text m (fault_at T.NoSuchType place) p readable is
no_text_none text m place W.NotContractive p readable is = specs_right text m (fault_at T.NotContractive place) p readable is
no_text_none text m place W.NegatedFun p readable is = specs_right text m (fault_at T.NegatedFun place) p readable is
no_text_none text m place W.EmptyRange p readable is = specs_right text m (fault_at T.BadRange place) p readable is

-- a text whose names are wrong is refused by the words of its first fault
wrong_text : (text : List ℕ) (f : PlacedFault) (place : Place) (words : Words) → HasWrongNames text f → IsNoText text place words → V.NotText place words ≡ V.NotText f.place (fault_words f.fault)
wrong_text text f place W.BadToken w is = absurd (no_fault text (module_tokens w.tree) (L.BadToken place) w.parsed.lexed is)
wrong_text text f place W.BadEscape w is = absurd (no_fault text (module_tokens w.tree) (L.BadEscape place) w.parsed.lexed is)
wrong_text text f place W.NumberTooWide w is = absurd (no_fault text (module_tokens w.tree) (L.WideNumber place) w.parsed.lexed is)
wrong_text text f place (W.OutOfProfile form) w (inl is) = absurd (no_fault text (module_tokens w.tree) (L.OutOfProfile place form) w.parsed.lexed is)
wrong_text text f place (W.OutOfProfile form) w (inr (inl is)) = absurd (outside_none text w.tree place form w.parsed is)
wrong_text text f place (W.OutOfProfile form) w (inr (inr is)) = absurd (names_first text f (fault_at (T.OutOfProfile is.0) place) w is.2)
wrong_text text f place W.Unexpected w is = absurd (unexpected_none text w.tree w.parsed is)
wrong_text text f place W.TooDeep w is = absurd (deep_none text w.tree place w.parsed is)
wrong_text text f place W.UnboundVariable w is = ap (λ (z : PlacedFault). V.NotText z.place (fault_words z.fault)) (same_fault text (placed N.Unbound place) f is w)
wrong_text text f place W.UnsafeVariable w is = ap (λ (z : PlacedFault). V.NotText z.place (fault_words z.fault)) (same_fault text (placed N.Unsafe place) f is w)
wrong_text text f place W.NoSuchFunction w is = ap (λ (z : PlacedFault). V.NotText z.place (fault_words z.fault)) (same_fault text (placed N.NoSuchFunction place) f is w)
wrong_text text f place W.TwoFunctions w is = ap (λ (z : PlacedFault). V.NotText z.place (fault_words z.fault)) (same_fault text (placed N.TwoFunctions place) f is w)
wrong_text text f place W.NoSpec w is = ap (λ (z : PlacedFault). V.NotText z.place (fault_words z.fault)) (same_fault text (placed N.NoSpec place) f is w)
wrong_text text f place W.NoSuchRecord w is = ap (λ (z : PlacedFault). V.NotText z.place (fault_words z.fault)) (same_fault text (placed N.NoSuchRecord place) f is w)
wrong_text text f place W.NoSuchField w is = ap (λ (z : PlacedFault). V.NotText z.place (fault_words z.fault)) (same_fault text (placed N.NoSuchField place) f is w)
wrong_text text f place W.Repeated w (inl is) = ap (λ (z : PlacedFault). V.NotText z.place (fault_words z.fault)) (same_fault text (placed N.Repeated place) f is w)
wrong_text text f place W.Repeated w (inr is) = absurd (names_first text f (fault_at T.Repeated place) w is)
wrong_text text f place W.ArityDiffers w (inl is) = ap (λ (z : PlacedFault). V.NotText z.place (fault_words z.fault)) (same_fault text (placed N.ArityDiffers place) f is w)
wrong_text text f place W.ArityDiffers w (inr is) = absurd (names_first text f (fault_at T.ArityDiffers place) w is)
wrong_text text f place W.NoSuchType w is = absurd (names_first text f (fault_at T.NoSuchType place) w is)
wrong_text text f place W.NotContractive w is = absurd (names_first text f (fault_at T.NotContractive place) w is)
wrong_text text f place W.NegatedFun w is = absurd (names_first text f (fault_at T.NegatedFun place) w is)
wrong_text text f place W.EmptyRange w is = absurd (names_first text f (fault_at T.BadRange place) w is)

-- a text whose names are right and whose types, records or specs are wrong is refused by the words of their first fault
wrong_specs_text : (text : List ℕ) (f : TypePlacedFault) (place : Place) (words : Words) → HasWrongSpecs text f → IsNoText text place words → V.NotText place words ≡ V.NotText f.place (spec_fault_words f.fault)
wrong_specs_text text f place W.BadToken w is = absurd (no_fault text (module_tokens w.tree) (L.BadToken place) w.parsed.lexed is)
wrong_specs_text text f place W.BadEscape w is = absurd (no_fault text (module_tokens w.tree) (L.BadEscape place) w.parsed.lexed is)
wrong_specs_text text f place W.NumberTooWide w is = absurd (no_fault text (module_tokens w.tree) (L.WideNumber place) w.parsed.lexed is)
wrong_specs_text text f place (W.OutOfProfile form) w (inl is) = absurd (no_fault text (module_tokens w.tree) (L.OutOfProfile place form) w.parsed.lexed is)
wrong_specs_text text f place (W.OutOfProfile form) w (inr (inl is)) = absurd (outside_none text w.tree place form w.parsed is)
wrong_specs_text text f place (W.OutOfProfile form) w (inr (inr is)) =
    ap (λ words. V.NotText place (W.OutOfProfile words)) is.1 ∙ ap (λ (z : TypePlacedFault). V.NotText z.place (spec_fault_words z.fault)) (same_spec_fault text (fault_at (T.OutOfProfile is.0) place) f is.2 w)
wrong_specs_text text f place W.Unexpected w is = absurd (unexpected_none text w.tree w.parsed is)
wrong_specs_text text f place W.TooDeep w is = absurd (deep_none text w.tree place w.parsed is)
wrong_specs_text text f place W.UnboundVariable w is = absurd (names_first text (placed N.Unbound place) f is w)
wrong_specs_text text f place W.UnsafeVariable w is = absurd (names_first text (placed N.Unsafe place) f is w)
wrong_specs_text text f place W.NoSuchFunction w is = absurd (names_first text (placed N.NoSuchFunction place) f is w)
wrong_specs_text text f place W.TwoFunctions w is = absurd (names_first text (placed N.TwoFunctions place) f is w)
wrong_specs_text text f place W.NoSpec w is = absurd (names_first text (placed N.NoSpec place) f is w)
wrong_specs_text text f place W.NoSuchRecord w is = absurd (names_first text (placed N.NoSuchRecord place) f is w)
wrong_specs_text text f place W.NoSuchField w is = absurd (names_first text (placed N.NoSuchField place) f is w)
wrong_specs_text text f place W.Repeated w (inl is) = absurd (names_first text (placed N.Repeated place) f is w)
wrong_specs_text text f place W.Repeated w (inr is) = ap (λ (z : TypePlacedFault). V.NotText z.place (spec_fault_words z.fault)) (same_spec_fault text (fault_at T.Repeated place) f is w)
wrong_specs_text text f place W.ArityDiffers w (inl is) = absurd (names_first text (placed N.ArityDiffers place) f is w)
wrong_specs_text text f place W.ArityDiffers w (inr is) = ap (λ (z : TypePlacedFault). V.NotText z.place (spec_fault_words z.fault)) (same_spec_fault text (fault_at T.ArityDiffers place) f is w)
wrong_specs_text text f place W.NoSuchType w is = ap (λ (z : TypePlacedFault). V.NotText z.place (spec_fault_words z.fault)) (same_spec_fault text (fault_at T.NoSuchType place) f is w)
wrong_specs_text text f place W.NotContractive w is = ap (λ (z : TypePlacedFault). V.NotText z.place (spec_fault_words z.fault)) (same_spec_fault text (fault_at T.NotContractive place) f is w)
wrong_specs_text text f place W.NegatedFun w is = ap (λ (z : TypePlacedFault). V.NotText z.place (spec_fault_words z.fault)) (same_spec_fault text (fault_at T.NegatedFun place) f is w)
wrong_specs_text text f place W.EmptyRange w is = ap (λ (z : TypePlacedFault). V.NotText z.place (spec_fault_words z.fault)) (same_spec_fault text (fault_at T.BadRange place) f is w)

-- what is read as a flat module isn't unbuilt
read_built : (text : List ℕ) (m : Module) → IsLexed text (module_tokens m) → IsFlatModule m → IsNotBuilt text → ⊥
read_built text m lexed flat unbuilt = unbuilt.not_flat (subst IsFlatModule (same_parsed text m unbuilt.tree (read_parsed text m lexed flat) unbuilt.parsed) flat)

-- ---- verdicts

last_of : (before : List Constraint) (c : Constraint) (after : List Constraint) → Every Holds (before ++ c ∷ after) → Holds c
last_of [] c after h = h.0
last_of (b ∷ before) c after h = last_of before c after h.1

-- a constraint that fails isn't among those that all hold
no_failure : (text : List ℕ) (right : IsRightText text) (n : Module) (function : ℕ) (place : _) (kind : _) (shown : _) → IsReadAs text n → ShowsFirstFailure n (F.Failed function place kind shown) → ⊥
no_failure text right n function place kind shown read shows =
    let first = shows right.fits right.finds_fits in
    let same : right.tree ≡ n = read.only right.tree (spells text right.tree right.lexed right.flat.well_formed) in
    let all : Every Holds (owed_of right.fits n) = subst (λ (z : Module). Every Holds (owed_of right.fits z)) same right.meets in
    first.0.fails (last_of first.0.before _ first.0.after (subst (λ (cs : List Constraint). Every Holds cs) first.0.listed all))

-- the verdict on a flat module whose constraints hold
accepted_verdict : (text : List ℕ) (right : IsRightText text) (verdict : Verdict) → length text ≤ text_limit → IsTextVerdict text verdict → verdict_status verdict ≡ 0
accepted_verdict text right (V.Accepted name functions clauses) short is = refl
accepted_verdict text right (V.Failed name function arity clause place kind shown) short is = absurd (no_failure text right is.0 is.2.number place kind shown is.1 is.2.failed)
accepted_verdict text right (V.NotText place words) short is = absurd (no_text_none text right.tree place words (right_parsed text right) right.flat.readable is)
accepted_verdict text right (V.NotUtf8 at) short is = absurd (no_fault text (module_tokens right.tree) (L.NotUtf8 at) right.lexed is)
accepted_verdict text right V.TooLong short is = absurd (omega arith)
accepted_verdict text right V.NotBuilt short is = absurd (read_built text right.tree right.lexed right.flat is)
accepted_verdict text right V.Usage short is = absurd is

-- the verdict on a module that isn't flat
unbuilt_verdict : (text : List ℕ) (verdict : Verdict) → length text ≤ text_limit → IsNotBuilt text → IsTextVerdict text verdict → verdict ≡ V.NotBuilt
unbuilt_verdict text (V.Accepted name functions clauses) short unbuilt is = absurd (read_built text is.safe.tree is.lexed is.flat unbuilt)
unbuilt_verdict text (V.Failed name function arity clause place kind shown) short unbuilt is = absurd (read_built text is.0 is.1.lexed is.1.flat unbuilt)
unbuilt_verdict text (V.NotText place words) short unbuilt is = absurd (no_text_none text unbuilt.tree place words unbuilt.parsed unbuilt.readable is)
unbuilt_verdict text (V.NotUtf8 at) short unbuilt is = absurd (no_fault text (module_tokens unbuilt.tree) (L.NotUtf8 at) unbuilt.parsed.lexed is)
unbuilt_verdict text V.TooLong short unbuilt is = absurd (omega arith)
unbuilt_verdict text V.NotBuilt short unbuilt is = refl
unbuilt_verdict text V.Usage short unbuilt is = absurd is

-- the verdict on a module whose names are wrong
wrong_verdict : (text : List ℕ) (f : PlacedFault) (verdict : Verdict) → length text ≤ text_limit → HasWrongNames text f → IsTextVerdict text verdict → verdict ≡ V.NotText f.place (fault_words f.fault)
wrong_verdict text f (V.Accepted name functions clauses) short w is = absurd (wrong_right text is.safe.tree f (read_parsed text is.safe.tree is.lexed is.flat) is.flat.readable.right_names w)
wrong_verdict text f (V.Failed name function arity clause place kind shown) short w is = absurd (wrong_right text is.0 f (read_parsed text is.0 is.1.lexed is.1.flat) is.1.flat.readable.right_names w)
wrong_verdict text f (V.NotText place words) short w is = wrong_text text f place words w is
wrong_verdict text f (V.NotUtf8 at) short w is = absurd (no_fault text (module_tokens w.tree) (L.NotUtf8 at) w.parsed.lexed is)
wrong_verdict text f V.TooLong short w is = absurd (omega arith)
wrong_verdict text f V.NotBuilt short w is = absurd (wrong_right text is.tree f is.parsed is.readable.right_names w)
wrong_verdict text f V.Usage short w is = absurd is

-- the verdict on a module whose names are right and whose types, records or specs are wrong
wrong_specs_verdict : (text : List ℕ) (f : TypePlacedFault) (verdict : Verdict) → length text ≤ text_limit → HasWrongSpecs text f → IsTextVerdict text verdict → verdict ≡ V.NotText f.place (spec_fault_words f.fault)
wrong_specs_verdict text f (V.Accepted name functions clauses) short w is = absurd (specs_right text is.safe.tree f (read_parsed text is.safe.tree is.lexed is.flat) is.flat.readable w)
wrong_specs_verdict text f (V.Failed name function arity clause place kind shown) short w is = absurd (specs_right text is.0 f (read_parsed text is.0 is.1.lexed is.1.flat) is.1.flat.readable w)
wrong_specs_verdict text f (V.NotText place words) short w is = wrong_specs_text text f place words w is
wrong_specs_verdict text f (V.NotUtf8 at) short w is = absurd (no_fault text (module_tokens w.tree) (L.NotUtf8 at) w.parsed.lexed is)
wrong_specs_verdict text f V.TooLong short w is = absurd (omega arith)
wrong_specs_verdict text f V.NotBuilt short w is = absurd (specs_right text is.tree f is.parsed is.readable w)
wrong_specs_verdict text f V.Usage short w is = absurd is

-- the verdict on a text without a module
no_module_verdict : (text : List ℕ) (verdict : Verdict) → HasNoModule text → IsTextVerdict text verdict → verdict_status verdict ≡ 3
no_module_verdict text (V.Accepted name functions clauses) none is = absurd (none is.safe.tree (read_parsed text is.safe.tree is.lexed is.flat))
no_module_verdict text (V.Failed name function arity clause place kind shown) none is = absurd (none is.0 (read_parsed text is.0 is.1.lexed is.1.flat))
no_module_verdict text (V.NotText place words) none is = refl
no_module_verdict text (V.NotUtf8 at) none is = refl
no_module_verdict text V.TooLong none is = refl
no_module_verdict text V.NotBuilt none is = refl
no_module_verdict text V.Usage none is = absurd is

-- ---- answers of the check of a text

pub right_is_accepted : (text : List ℕ) (result : Result Accepted Refused) → IfErr result (IsTextRefusal text) → IsRightText text → length text ≤ text_limit → IsOk result ⊎ IsErrOf result R.NoMemory
right_is_accepted text (Ok a) is right short = inl refl
right_is_accepted text (Err R.NoMemory) is right short = inr refl
right_is_accepted text (Err R.TooLong) is right short = absurd (omega arith)
right_is_accepted text (Err (R.Lex fault)) is right short = absurd (no_fault text (module_tokens right.tree) fault right.lexed is)
right_is_accepted text (Err (R.Parse fault)) is right short = absurd (refusal_none text right.tree fault (right_parsed text right) is)
right_is_accepted text (Err (R.Scope fault)) is right short = absurd (told_right text right.tree (placed_fault fault) (right_parsed text right) right.flat.readable.right_names is)
right_is_accepted text (Err (R.Spec fault)) is right short = absurd (told_specs_right text right.tree (placed_spec_fault fault) (right_parsed text right) right.flat.readable is)
right_is_accepted text (Err R.NotBuilt) is right short = absurd (read_built text right.tree right.lexed right.flat is)
right_is_accepted text (Err (R.Types F.NoMemory)) is right short = absurd is.2
right_is_accepted text (Err (R.Types (F.Failed function place kind shown))) is right short = absurd (no_failure text right is.0 function place kind shown is.1 is.2)

pub unbuilt_is_refused : (text : List ℕ) (result : Result Accepted Refused) → IfOk result (λ a. IsAcceptedText text a.name a.functions a.clauses) → IfErr result (IsTextRefusal text) → IsNotBuilt text → length text ≤ text_limit → IsErrOf result R.NotBuilt ⊎ IsErrOf result R.NoMemory
unbuilt_is_refused text (Ok a) accepted is unbuilt short = absurd (read_built text accepted.safe.tree accepted.lexed accepted.flat unbuilt)
unbuilt_is_refused text (Err R.NoMemory) accepted is unbuilt short = inr refl
unbuilt_is_refused text (Err R.TooLong) accepted is unbuilt short = absurd (omega arith)
unbuilt_is_refused text (Err (R.Lex fault)) accepted is unbuilt short = absurd (no_fault text (module_tokens unbuilt.tree) fault unbuilt.parsed.lexed is)
unbuilt_is_refused text (Err (R.Parse fault)) accepted is unbuilt short = absurd (refusal_none text unbuilt.tree fault unbuilt.parsed is)
unbuilt_is_refused text (Err (R.Scope fault)) accepted is unbuilt short = absurd (told_right text unbuilt.tree (placed_fault fault) unbuilt.parsed unbuilt.readable.right_names is)
unbuilt_is_refused text (Err (R.Spec fault)) accepted is unbuilt short = absurd (told_specs_right text unbuilt.tree (placed_spec_fault fault) unbuilt.parsed unbuilt.readable is)
unbuilt_is_refused text (Err R.NotBuilt) accepted is unbuilt short = inl refl
unbuilt_is_refused text (Err (R.Types refusal)) accepted is unbuilt short = absurd (read_built text is.0 is.1.lexed is.1.flat unbuilt)

pub no_module_is_refused : (text : List ℕ) (result : Result Accepted Refused) → IfOk result (λ a. IsAcceptedText text a.name a.functions a.clauses) → IfErr result (IsTextRefusal text) → HasNoModule text → length text ≤ text_limit → IsNoModuleAnswer result
no_module_is_refused text (Ok a) accepted is none short = none accepted.safe.tree (read_parsed text accepted.safe.tree accepted.lexed accepted.flat)
no_module_is_refused text (Err R.NoMemory) accepted is none short = tt
no_module_is_refused text (Err R.TooLong) accepted is none short = absurd (omega arith)
no_module_is_refused text (Err (R.Lex fault)) accepted is none short = tt
no_module_is_refused text (Err (R.Parse fault)) accepted is none short = tt
no_module_is_refused text (Err (R.Scope fault)) accepted is none short = told_module text (placed_fault fault) none is
no_module_is_refused text (Err (R.Spec fault)) accepted is none short = told_specs_module text (placed_spec_fault fault) none is
no_module_is_refused text (Err R.NotBuilt) accepted is none short = none is.tree is.parsed
no_module_is_refused text (Err (R.Types refusal)) accepted is none short = none is.0 (read_parsed text is.0 is.1.lexed is.1.flat)

pub wrong_is_refused : (text : List ℕ) (f : PlacedFault) (result : Result Accepted Refused) → IfOk result (λ a. IsAcceptedText text a.name a.functions a.clauses) → IfErr result (IsTextRefusal text) → HasWrongNames text f → length text ≤ text_limit → IsWrongNamesAnswer f result
wrong_is_refused text f (Ok a) accepted is w short = wrong_right text accepted.safe.tree f (read_parsed text accepted.safe.tree accepted.lexed accepted.flat) accepted.flat.readable.right_names w
wrong_is_refused text f (Err R.NoMemory) accepted is w short = tt
wrong_is_refused text f (Err R.TooLong) accepted is w short = absurd (omega arith)
wrong_is_refused text f (Err (R.Lex fault)) accepted is w short = no_fault text (module_tokens w.tree) fault w.parsed.lexed is
wrong_is_refused text f (Err (R.Parse fault)) accepted is w short = refusal_none text w.tree fault w.parsed is
wrong_is_refused text f (Err (R.Scope fault)) accepted is w short = told_same text f (placed_fault fault) w is
wrong_is_refused text f (Err (R.Spec fault)) accepted is w short = told_specs_names text f (placed_spec_fault fault) w is
wrong_is_refused text f (Err R.NotBuilt) accepted is w short = wrong_right text is.tree f is.parsed is.readable.right_names w
wrong_is_refused text f (Err (R.Types refusal)) accepted is w short = wrong_right text is.0 f (read_parsed text is.0 is.1.lexed is.1.flat) is.1.flat.readable.right_names w

pub wrong_specs_are_refused : (text : List ℕ) (f : TypePlacedFault) (result : Result Accepted Refused) → IfOk result (λ a. IsAcceptedText text a.name a.functions a.clauses) → IfErr result (IsTextRefusal text) → HasWrongSpecs text f → length text ≤ text_limit → IsWrongSpecsAnswer f result
wrong_specs_are_refused text f (Ok a) accepted is w short = specs_right text accepted.safe.tree f (read_parsed text accepted.safe.tree accepted.lexed accepted.flat) accepted.flat.readable w
wrong_specs_are_refused text f (Err R.NoMemory) accepted is w short = tt
wrong_specs_are_refused text f (Err R.TooLong) accepted is w short = absurd (omega arith)
wrong_specs_are_refused text f (Err (R.Lex fault)) accepted is w short = no_fault text (module_tokens w.tree) fault w.parsed.lexed is
wrong_specs_are_refused text f (Err (R.Parse fault)) accepted is w short = refusal_none text w.tree fault w.parsed is
wrong_specs_are_refused text f (Err (R.Scope fault)) accepted is w short = told_names_specs text f (placed_fault fault) w is
wrong_specs_are_refused text f (Err (R.Spec fault)) accepted is w short = told_specs_same text f (placed_spec_fault fault) w is
wrong_specs_are_refused text f (Err R.NotBuilt) accepted is w short = specs_right text is.tree f is.parsed is.readable w
wrong_specs_are_refused text f (Err (R.Types refusal)) accepted is w short = specs_right text is.0 f (read_parsed text is.0 is.1.lexed is.1.flat) is.1.flat.readable w

-- ---- what was judged is what is named

cons_parts : (a b : List ℕ) (xs ys : List (List ℕ)) → a ∷ xs ≡ b ∷ ys → (a ≡ b) × (xs ≡ ys)
cons_parts a b xs ys e = (cc, cc)

some_is : (a b : List ℕ) → Some a ≡ Some b → a ≡ b
some_is a b e = cc

-- the words name one file
one_file : (words : List (List ℕ)) (file other : List ℕ) → IsCheckOf words file → IsCheckOf words other → file ≡ other
one_file words file other said again =
    let tails = cons_parts _ _ (file ∷ []) (other ∷ []) (sym said ∙ again) in
    (cons_parts file other [] [] tails.1).0

no_command : (words : List (List ℕ)) (file : List ℕ) → IsCheckOf words file → command_of words ≡ None → ⊥
no_command words file said none = no (subst (λ (ws : List (List ℕ)). command_of ws ≡ None) said none)
  where
    no : command_of (codes "check" ∷ file ∷ []) ≡ None → ⊥
    no e = cc

-- words that name a text are a command
pub is_command : (words : List (List ℕ)) (held : Option Holdings) (text : List ℕ) → NamesText words held text → command_of words ≡ None → ⊥
is_command words held text named none = no_command words named.file named.said none

-- the text that was judged is the one that is named
judged_text : (status : ℕ) (words : List (List ℕ)) (held : Option Holdings) (before after : Option (List ℕ)) (text : List ℕ) → NamesText words held text → (judges : Judges status words held before after) → IsTextVerdict text judges.judged.verdict
judged_text status words held before after text named judges =
    let under = judges.judged.right named.files named.told in
    let same : judges.file ≡ named.file = one_file words judges.file named.file judges.said named.said in
    let one : under.text ≡ text = some_is under.text text (sym under.held ∙ (ap (λ n. named.files n) same ∙ named.holds)) in
    subst (λ (z : List ℕ). IsTextVerdict z judges.judged.verdict) one under.right.right

-- ---- statuses

-- a status that is none of 2, 4 and 5 is that of a verdict, or want of memory
few : {A : Type 0} (status : ℕ) → status ≤ 6 → (status ≡ 4 → ⊥) → (status ≡ 5 → ⊥) → (status ≡ 2 → ⊥) → (status < 4 → status ≢ 2 → A) → A ⊎ (status ≡ 6)
few zero small read write usage judged = inl (judged (omega arith) (λ e. absurd (omega arith)))
few (suc zero) small read write usage judged = inl (judged (omega arith) (λ e. absurd (omega arith)))
few (suc (suc zero)) small read write usage judged = absurd (usage refl)
few (suc (suc (suc zero))) small read write usage judged = inl (judged (omega arith) (λ e. absurd (omega arith)))
few (suc (suc (suc (suc zero)))) small read write usage judged = absurd (read refl)
few (suc (suc (suc (suc (suc zero))))) small read write usage judged = absurd (write refl)
few (suc (suc (suc (suc (suc (suc n)))))) small read write usage judged = inr (omega arith)

-- a flat module whose constraints hold is accepted
pub completes : (status : ℕ) (words : List (List ℕ)) (held : Option Holdings) (before after : Option (List ℕ)) → NamesRightModule words held → status ≤ 6
    → (status ≡ 4 → ⊥) → (status ≡ 5 → ⊥) → (status ≡ 2 → ⊥) → (status < 4 → status ≢ 2 → Judges status words held before after) → (status ≡ 0) ⊎ (status ≡ 6)
completes status words held before after right small read write usage judges =
    few status small read write usage (λ below not_two.
    let j : Judges status words held before after = judges below not_two in
    sym j.judged.status_is ∙ accepted_verdict right.text right.right j.judged.verdict right.named.short (judged_text status words held before after right.text right.named j))

-- a text without a module is refused
pub refuses : (status : ℕ) (words : List (List ℕ)) (held : Option Holdings) (before after : Option (List ℕ)) → NamesNoModule words held → status ≤ 6
    → (status ≡ 4 → ⊥) → (status ≡ 5 → ⊥) → (status ≡ 2 → ⊥) → (status < 4 → status ≢ 2 → Judges status words held before after) → (status ≡ 3) ⊎ (status ≡ 6)
refuses status words held before after none small read write usage judges =
    few status small read write usage (λ below not_two.
    let j : Judges status words held before after = judges below not_two in
    sym j.judged.status_is ∙ no_module_verdict none.text j.judged.verdict none.none (judged_text status words held before after none.text none.named j))

-- a module whose names are wrong is refused with their first fault
pub refuses_names : (status : ℕ) (words : List (List ℕ)) (held : Option Holdings) (before after : Option (List ℕ)) (f : PlacedFault) → NamesWrongNames words held f → status ≤ 6
    → (status ≡ 4 → ⊥) → (status ≡ 5 → ⊥) → (status ≡ 2 → ⊥) → (status < 4 → status ≢ 2 → Judges status words held before after)
    → ((status ≡ 3) × Puts before after (report_text (V.NotText f.place (fault_words f.fault)))) ⊎ (status ≡ 6)
refuses_names status words held before after f wrong small read write usage judges =
    few status small read write usage (λ below not_two.
    let j : Judges status words held before after = judges below not_two in
    let is : j.judged.verdict ≡ V.NotText f.place (fault_words f.fault) = wrong_verdict wrong.text f j.judged.verdict wrong.named.short wrong.wrong (judged_text status words held before after wrong.text wrong.named j) in
    (sym j.judged.status_is ∙ ap (λ (v : Verdict). verdict_status v) is, subst (λ (v : Verdict). Puts before after (report_text v)) is j.judged.written))

-- a module whose names are right and whose types, records or specs are wrong is refused with their first fault
pub refuses_specs : (status : ℕ) (words : List (List ℕ)) (held : Option Holdings) (before after : Option (List ℕ)) (f : TypePlacedFault) → NamesWrongSpecs words held f → status ≤ 6
    → (status ≡ 4 → ⊥) → (status ≡ 5 → ⊥) → (status ≡ 2 → ⊥) → (status < 4 → status ≢ 2 → Judges status words held before after)
    → ((status ≡ 3) × Puts before after (report_text (V.NotText f.place (spec_fault_words f.fault)))) ⊎ (status ≡ 6)
refuses_specs status words held before after f wrong small read write usage judges =
    few status small read write usage (λ below not_two.
    let j : Judges status words held before after = judges below not_two in
    let is : j.judged.verdict ≡ V.NotText f.place (spec_fault_words f.fault) = wrong_specs_verdict wrong.text f j.judged.verdict wrong.named.short wrong.wrong (judged_text status words held before after wrong.text wrong.named j) in
    (sym j.judged.status_is ∙ ap (λ (v : Verdict). verdict_status v) is, subst (λ (v : Verdict). Puts before after (report_text v)) is j.judged.written))

-- a module that isn't flat isn't built yet
pub not_yet : (status : ℕ) (words : List (List ℕ)) (held : Option Holdings) (before after : Option (List ℕ)) → NamesNotBuilt words held → status ≤ 6
    → (status ≡ 4 → ⊥) → (status ≡ 5 → ⊥) → (status ≡ 2 → ⊥) → (status < 4 → status ≢ 2 → Judges status words held before after)
    → ((status ≡ 3) × Puts before after (report_text V.NotBuilt)) ⊎ (status ≡ 6)
not_yet status words held before after unbuilt small read write usage judges =
    few status small read write usage (λ below not_two.
    let j : Judges status words held before after = judges below not_two in
    let is : j.judged.verdict ≡ V.NotBuilt = unbuilt_verdict unbuilt.text j.judged.verdict unbuilt.named.short unbuilt.not_built (judged_text status words held before after unbuilt.text unbuilt.named j) in
    (sym j.judged.status_is ∙ ap (λ (v : Verdict). verdict_status v) is, subst (λ (v : Verdict). Puts before after (report_text v)) is j.judged.written))
