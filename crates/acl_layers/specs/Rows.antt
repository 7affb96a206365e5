-- The rows that those of the program stand for.
use Rattle.std.specs.Prelude.{ℕ, List, [], ◌∷◌}
use Rattle.model_objects.specs.Object.{Object, Integer, Symbol}
use Rattle.model_symbols.specs.Opening.{nil}
use Rattle.model_expansion.specs.Layers as layers
use Rattle.acl_layers.specs.declared.rows.Letter.{Letter}
use Rattle.acl_layers.specs.declared.rows.Letter.TheVariants as letter
use Rattle.acl_layers.specs.declared.rows.Path.{Path}
use Rattle.acl_layers.specs.declared.rows.Path.TheVariants as path
use Rattle.acl_layers.specs.declared.rows.Unit.{Unit}
use Rattle.acl_layers.specs.declared.rows.Unit.TheVariants as unit
use Rattle.acl_layers.specs.declared.rows.Binary.{Binary}
use Rattle.acl_layers.specs.declared.rows.Binary.TheVariants as binary
use Rattle.acl_layers.specs.declared.rows.Row.{Row}
use Rattle.acl_layers.specs.declared.rows.Row.TheVariants as row

abbrev pub seen_letter : Letter → ℕ
seen_letter letter.A = 65
seen_letter letter.D = 68

abbrev pub seen_path : Path → List ℕ
seen_path (path.One a) = seen_letter a ∷ []
seen_path (path.Two a b) = seen_letter a ∷ seen_letter b ∷ []
seen_path (path.Three a b c) = seen_letter a ∷ seen_letter b ∷ seen_letter c ∷ []
seen_path (path.Four a b c d) = seen_letter a ∷ seen_letter b ∷ seen_letter c ∷ seen_letter d ∷ []
seen_path (path.Five a b c d e) = seen_letter a ∷ seen_letter b ∷ seen_letter c ∷ seen_letter d ∷ seen_letter e ∷ []

abbrev pub seen_unit : Unit → Object ℕ
seen_unit (unit.Integer n) = Integer n
seen_unit unit.Nil = Symbol nil

abbrev pub seen_binary : Binary → layers.MacroRow
seen_binary (binary.Straight f) = layers.Two f.0
seen_binary (binary.Turned f) = layers.Turned f.0

abbrev pub seen_row : Row → layers.MacroRow
seen_row row.Quote = layers.Quote
seen_row row.If = layers.If
seen_row row.Let = layers.Let
seen_row row.Mv = layers.Mv
seen_row row.MvLet = layers.MvLet
seen_row row.StobjLet = layers.StobjLet
seen_row row.WithLocal = layers.WithLocal
seen_row row.MustBeEqual = layers.MustBeEqual
seen_row row.And = layers.And
seen_row row.Or = layers.Or
seen_row row.Cond = layers.Cond
seen_row row.Case = layers.Case
seen_row row.LetStar = layers.LetStar
seen_row row.Listing = layers.Listing
seen_row row.ListStar = layers.ListStar
seen_row (row.Chain f u) = layers.Chain f.0 (seen_unit u)
seen_row row.Minus = layers.Minus
seen_row (row.Added n) = layers.Added n
seen_row (row.Two b) = seen_binary b
seen_row (row.Negated b) = layers.Negated (seen_binary b)
seen_row (row.Path p) = layers.Path (seen_path p)
seen_row row.Then = layers.Then
seen_row row.Mbt = layers.Mbt
seen_row row.Mbe = layers.Mbe
seen_row row.The = layers.The
seen_row row.OrTest = layers.OrTest
seen_row row.CondTest = layers.CondTest
seen_row row.CondRest = layers.Cond
seen_row row.Clauses = layers.Clauses
seen_row row.Bindings = layers.Bindings
seen_row row.Checked = layers.Checked
