-- What is built of lexemes.
use Rattle.std.specs.Prelude.{◌≡◌, ℕ, ◌<◌, List, Result, Ok, Err, Option, Some, None}
use Rattle.model_objects.specs.Object.{max_weight}
use Rattle.model_symbols.specs.Symbols.{Table}
use Rattle.model_symbols.specs.Growth.{IsSymbol}
use Rattle.model_symbols.specs.Opening.{nil_name, quote_name}
use Rattle.model_text.specs.Backquote.{cons_name, append_name}
use Rattle.model_text.specs.Parts.{Put, Parts, Whole}
use Rattle.acl_base.specs.declared.Word.{Word}
use Rattle.acl_heap.specs.Objects.{Objects}
use Rattle.acl_forms.specs.Forms.{form_at, IsWhole}
use Rattle.acl_read_build.specs.declared.Refusal.{Refusal}
use Rattle.acl_read_build.specs.declared.Refusal.TheVariants.{TooLarge, Memory}
use Rattle.acl_read_build.specs.declared.Slot.{Slot}
use Rattle.acl_read_build.specs.Slots.{parts_at, AreWholeSlots, put_weight}

-- the table has the symbols that quotes and backquotes write
pub record HasNames (t : Table) : Type 0 where
  pub nil : IsSymbol t.symbols 1 nil_name
  pub quote : IsSymbol t.symbols 2 quote_name
  pub cons : IsSymbol t.symbols 8 cons_name
  pub append : IsSymbol t.symbols 144 append_name

-- why something of this weight is not built
abbrev pub Refuses : ℕ → Refusal → Type 0
Refuses n TooLarge = max_weight < n
Refuses n Memory = Unit {0}

-- what came is what the lexeme does
abbrev pub Builds : Table → Objects → List Slot → Put → Result (Option Word) Refusal → Type 0
Builds t h slots put (Ok None) = (put ≡ Parts (parts_at t h slots)) × AreWholeSlots t h slots
Builds t h slots put (Ok (Some w)) = (put ≡ Whole (form_at t h w)) × IsWhole t h w
Builds t h slots put (Err e) = Refuses (put_weight put) e
