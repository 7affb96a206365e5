use Rattle.std.specs.Prelude.{◌≡◌, ◌+◌, length}
use Rattle.model_symbols.specs.Growth.{Extends}
use Rattle.acl_terms.specs.Forms.{numbers}
use Rattle.acl_stobj_read.specs.Written.{seen_renaming}
use Rattle.acl_stobj.specs.Texts.{makings_of}
use Rattle.acl_stobj.specs.Making.{AreMaking}
use Rattle.acl_stobj.proofs.making.make_names.Given as goal

abbrev pub invariant-names : goal.invariant-names
invariant-names l = record {
  grows : Extends l.fn.syms l.syms;
  packages : l.syms.packages ≡ l.fn.syms.packages;
  many : length l.names + length l.rest ≡ length l.purposes;
  making : AreMaking l.fn.syms.packages (seen_renaming l.renaming) (makings_of l.fn.syms.symbols l.s.0 l.purposes) l.fn.syms.symbols (numbers l.names) (makings_of l.fn.syms.symbols l.s.0 l.rest) l.syms.symbols;
}

abbrev pub decreases-names : goal.decreases-names
decreases-names l = length l.rest
