-- Symbols of values of the logic are of known packages.
use Rattle.std.proofs.Common.{◌≡◌, ℕ, ◌<◌, List, [], ◌∷◌, map, length, Some, sym, ap, ◌∙◌}
use Rattle.model_objects.specs.Object.{Object, Integer, Symbol, Text, Pair}
use Rattle.model_objects.specs.Named.{Symbols, Knows}
use Rattle.model_symbols.specs.Symbols.{Package, Table, package_number, symbol_at, form_of}
use Rattle.model_symbols.specs.Tables.{IsTable}
use Rattle.model_symbols.proofs.NameLemmas.{symbol-at}
use Rattle.model_eval.specs.Outcomes.{Shown, Plain, StobjNamed}
use Rattle.model_eval.specs.Variables.{ordinary}
use Rattle.model_logic.specs.Logic.{Theory}
use Rattle.model_abstract.specs.Corresponding.{HasPackage}
use Rattle.model_follows.specs.Abstract.{HaveHomes}
use Rattle.model_follows.specs.Follows.{KnowsAll}

module _ (t : Table) (b : Theory) (e : b.packages ≡ t.packages) (i : IsTable t) where
  pub home_at : (q : ℕ) → q < length t.symbols → HasPackage b (symbol_at t.symbols q)
  home_at q l =
      let home : (n : ℕ) × (package_number t.packages (symbol_at t.symbols q).home ≡ Some n) = i.homes q (symbol_at t.symbols q) (symbol-at t.symbols q l) in
      (home.0, ap (λ (ps : List Package). package_number ps (symbol_at t.symbols q).home) e ∙ home.1)

  pub object_homes : (o : Object ℕ) → Knows (length t.symbols) o → Symbols (HasPackage b) (form_of t.symbols o)
  object_homes (Integer n) k = tt
  object_homes (Symbol q) k = home_at q k
  object_homes (Text bytes) k = tt
  object_homes (Pair a d) k = (object_homes a k.0, object_homes d k.1)

  pub homes_of : (vs : List (Shown ℕ)) → KnowsAll (length t.symbols) vs → HaveHomes b (map (form_of t.symbols) (ordinary vs))
  homes_of [] k = tt
  homes_of (Plain o ∷ vs) k = (object_homes o k.0, homes_of vs k.1)
  homes_of (StobjNamed x ∷ vs) k = homes_of vs k.1
