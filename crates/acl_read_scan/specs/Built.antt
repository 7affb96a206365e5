-- What has been read of the form at hand, seen as what the definition has read.
use Rattle.std.specs.Prelude.{◌≡◌, ℕ, ◌≤◌}
use Rattle.model_symbols.specs.Symbols.{Table}
use Rattle.model_symbols.specs.Growth.{Extends}
use Rattle.model_text.specs.Token.{Packages}
use Rattle.model_text.specs.Next as next
use Rattle.model_text.specs.Next.{State, most_input}
use Rattle.acl_read_lexemes.specs.Lexemes.{parts_of}
use Rattle.acl_read_lexemes.specs.Opening.{IsOpen}
use Rattle.acl_base.specs.declared.PkgId.{PkgId}
use Rattle.acl_read_scan.specs.declared.Built.{Built}
use Rattle.acl_read_scan.specs.declared.Inside.{Inside}
use Rattle.acl_read_scan.specs.declared.Inside.TheVariants.{Free, Bars, BarsEscape, String, StringEscape, Line, Block, BlockHash, BlockBar, AfterComma}

abbrev pub inside_of : Inside → next.Inside
inside_of Free = next.Free
inside_of Bars = next.Bars
inside_of BarsEscape = next.BarsEscape
inside_of String = next.String
inside_of StringEscape = next.StringEscape
inside_of Line = next.Line
inside_of (Block n) = next.Block n
inside_of (BlockHash n) = next.BlockHash n
inside_of (BlockBar n) = next.BlockBar n
inside_of AfterComma = next.AfterComma

-- so many bytes have come at least: one for each block comment, and one for a comma
abbrev pub least_at : Inside → ℕ
least_at Free = 0
least_at Bars = 0
least_at BarsEscape = 0
least_at String = 0
least_at StringEscape = 0
least_at Line = 0
least_at (Block n) = n
least_at (BlockHash n) = n
least_at (BlockBar n) = n
least_at AfterComma = 1

abbrev pub state_at : Table → Built → State
state_at t b = record {
  parts = parts_of t.symbols b.lexemes.items;
  inside = inside_of b.inside;
  token = b.token.items;
  at = b.at;
  first = b.first;
  symbols = t.symbols;
}

-- what has been read is what leaves these parts open
pub record IsBuilt (t : Table) (b : Built) : Type 0 where
  pub opens : IsOpen t.symbols b.frames.items b.lexemes.items
  pub deep : least_at b.inside ≤ b.at
  pub within : b.at ≤ most_input

abbrev pub packages_of : Table → PkgId → Packages
packages_of t p = record { all = t.packages; current = p.0 }

-- more symbols, and the same packages
pub record Grows (old new : Table) : Type 0 where
  pub extends : Extends old new
  pub packages : new.packages ≡ old.packages
