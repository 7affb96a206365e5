-- What a token stands for.
use Rattle.std.specs.Prelude.{◌≡◌, ◌≢◌, ℕ, ◌<◌, List, Result, Ok, Err}
use Rattle.model_symbols.specs.Symbols.{QualifiedName, Table, symbol_at, interned}
use Rattle.model_text.specs.Token as token
use Rattle.model_text.specs.Token.{Token, with_room}
use Rattle.model_text.specs.declared.TextFault.{TextFault}
use Rattle.model_text.specs.declared.TextCause.TheVariants.{Memory}
use Rattle.acl_read_lexemes.specs.declared.Lexeme.{Lexeme}
use Rattle.acl_read_lexemes.specs.declared.Lexeme.TheVariants as lexeme
use Rattle.acl_read_scan.specs.declared.tokens.Standing.{Standing}
use Rattle.acl_read_scan.specs.declared.tokens.Standing.TheVariants.{Dot, Number, Name}

abbrev pub token_for : List QualifiedName → Standing → Token
token_for symbols Dot = token.Dot
token_for symbols (Number n) = token.Number n
token_for symbols (Name s) = token.Name (symbol_at symbols s.0)

abbrev pub lexeme_for : Standing → Lexeme
lexeme_for Dot = lexeme.Dot
lexeme_for (Number n) = lexeme.Number n
lexeme_for (Name s) = lexeme.Name s

-- the symbols behind the token
abbrev pub symbols_behind : List QualifiedName → Token → List QualifiedName
symbols_behind symbols token.Dot = symbols
symbols_behind symbols (token.Number n) = symbols
symbols_behind symbols (token.Name q) = interned symbols q
symbols_behind symbols (token.Wrong c) = symbols

-- what the token stands for, and that the symbols have grown by it, or why it is wrong
abbrev pub Stands : Table → Table → ℕ → Token → Result Standing TextFault → Type 0
Stands old new start t (Ok s) = (with_room old.symbols t ≡ token_for new.symbols s) × (new.symbols ≡ symbols_behind old.symbols (with_room old.symbols t))
Stands old new start t (Err e) = e.cause ≢ Memory → (with_room old.symbols t ≡ token.Wrong e.cause) × (e.offset ≡ start)

abbrev pub IsKnownStanding : ℕ → Standing → Type 0
IsKnownStanding n Dot = Unit {0}
IsKnownStanding n (Number i) = Unit {0}
IsKnownStanding n (Name s) = s.0 < n
