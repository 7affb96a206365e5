-- The laws of symbols.
use Rattle.std.specs.Prelude.{◌≡◌, ℕ, ◌<◌, List, length, Some, refl}
use Rattle.std.proofs.Common.{sym, ap, ◌∙◌}
use Rattle.model_objects.proofs.NamedLemmas.{named-injective, named-agrees, Symbols-weaker}
use Rattle.model_symbols.specs.Symbols.{QualifiedName, symbol_at, number_of}
use Rattle.model_symbols.specs.Growth.{AreDistinct, IsSymbol}
use Rattle.model_symbols.specs.Opening.{opening, acl2_package, common_lisp_symbols, acl2_symbols, common_lisp_text, acl2_text}
use Rattle.model_symbols.proofs.NameLemmas.{symbol-at, symbol_at-is, interned-known, interned-new, number-push_same, symbol_in-name}
use Rattle.model_symbols.specs.Laws.{NamesObjects, Interning, OpensRight}

apart : (symbols : List QualifiedName) → AreDistinct symbols → (m n : ℕ) → m < length symbols → n < length symbols → symbol_at symbols m ≡ symbol_at symbols n → m ≡ n
apart symbols d m n l k e =
    let at : IsSymbol symbols n (symbol_at symbols m) = symbol-at symbols n k ∙ ap (λ (s : QualifiedName). Some s) (sym e) in
    d m n (symbol_at symbols m) (symbol-at symbols m l) at

pub names_objects : NamesObjects
names_objects = record {
  injective = λ symbols x y d p q e. named-injective (symbol_at symbols) (λ n. n < length symbols) (apart symbols d) x y p q e;
  stays = λ old new o e k. named-agrees (symbol_at new.symbols) (symbol_at old.symbols) o
      (Symbols-weaker (λ n. n < length old.symbols) (λ n. symbol_at new.symbols n ≡ symbol_at old.symbols n)
      (λ n l. symbol_at-is new.symbols n (symbol_at old.symbols n) (e.same n (symbol_at old.symbols n) (symbol-at old.symbols n l))) o k);
}

pub interning : Interning
interning = record {
  known = interned-known;
  new = interned-new;
  numbered = λ symbols s e. ap (λ (ss : List QualifiedName). number_of ss s) (interned-new symbols s e) ∙ number-push_same symbols s e;
  name_stays = symbol_in-name;
}

pub opens_right : OpensRight
unfolding opening acl2_package common_lisp_symbols acl2_symbols common_lisp_text acl2_text
opens_right = record { truth = refl; nil = refl; quote = refl; imports = refl; symbols = refl; packages = refl }
