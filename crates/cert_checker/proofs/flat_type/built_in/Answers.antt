use Rattle.std.proofs.Common.{◌≡◌, sym}
use Rattle.std.specs.Prelude.{true, false, codes}
use Rattle.std.specs.Str.{bytes_eq}
use Rattle.cert_checker.proofs.ValueSets.{integer-reads, atom-reads}
use Rattle.cert_checker.proofs.flat_type.built_in.Goals as goal

pub returns-then-eq : goal.returns-then-eq
returns-then-eq c t h = let w : bytes_eq c.args.name.now (codes "integer") ≡ true = sym (rw (c.as_slice.ensures, c.as_slice-2.ensures) at c.if-eq.ensures) in integer-reads c.args.name.now t w h

pub returns-else-eq : goal.returns-else-eq
returns-else-eq c t h = let w : bytes_eq c.args.name.now (codes "integer") ≡ false = sym (rw (c.as_slice.ensures, c.as_slice-2.ensures) at c.if-eq.ensures) in atom-reads c.args.name.now t w h
