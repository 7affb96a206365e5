-- What the event DEFMACRO ends with: a world with the macro, or the first refusal (ACL2's manual, topic DEFMACRO).
use Rattle.std.specs.Prelude.{◌≡◌, ℕ, List, None, Some}
use Rattle.model_objects.specs.Object.{Object}
use Rattle.model_symbols.specs.Symbols.{Package}
use Rattle.model_terms.specs.Cores.{Core}
use Rattle.model_terms.specs.Worlds.{World, MacroFormals}
use Rattle.model_expansion.specs.Words.{defmacro_word}
use Rattle.model_expansion.specs.Forms.{symbol_or_nil}
use Rattle.model_expansion.specs.Faults.{Refusal}
use Rattle.model_expansion.specs.Expansion.{Setting, Progress, Makes, expanded}
use Rattle.model_stobjs.specs.Answers as answer
use Rattle.model_events.specs.Macros.{WrittenMacro, written_macro, written_fault, macro_formals}
use Rattle.model_events.specs.Events.{Environment, Limits, Name, admitted}

abbrev pub environment : World → List Package → ℕ → Environment
environment w packages current = record { world = w; packages = packages; current = current }

abbrev pub bounds : Setting → Limits
bounds x = record { steps = x.steps; depth = x.depth }

module _ (x : Setting) (form : Object ℕ) (p q : Progress) where
  -- the event makes the macro of this name and this world, whichever package is the current one
  pub record Admits (after : World) (name : ℕ) : Type 0 where
    pub is : (current : ℕ) → admitted (environment x.world x.packages current) (bounds x) defmacro_word form p
        ≡ answer.Grants (record { environment = environment after x.packages current; created = None; said = Name name }) q

  -- the event's first refusal
  pub record Refuses (r : Refusal) : Type 0 where
    pub is : (current : ℕ) → admitted (environment x.world x.packages current) (bounds x) defmacro_word form p ≡ answer.Refuses r q

  -- a macro of which nothing is refused before the rules are checked: its name, its formals, and what its body is expanded to
  pub record Expands (name : ℕ) (formals : MacroFormals) (body : Core) : Type 0 where
    pub written : WrittenMacro
    pub is : written_macro form ≡ Some written
    pub right : written_fault p.symbols x.world written ≡ None
    pub named : symbol_or_nil written.name ≡ name
    pub taken : macro_formals written.formals ≡ formals
    pub makes : expanded x written.body p ≡ Makes body q
