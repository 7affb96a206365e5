-- The form that a word stands for: the object, its symbols by name. And what stays when heap and table grow.
use Rattle.std.specs.Prelude.{◌≡◌, ℕ, ◌<◌, List, [], ◌∷◌, length, map}
use Rattle.model_objects.specs.Object.{Object}
use Rattle.model_objects.specs.Named.{Knows}
use Rattle.model_symbols.specs.Symbols.{QualifiedName, Table, symbol_at, package_at, form_of}
use Rattle.model_symbols.specs.Growth as tables
use Rattle.acl_base.specs.declared.Word.{Word}
use Rattle.acl_heap.specs.Objects.{Objects, object_of, Lies}
use Rattle.acl_heap.specs.Objects as heaps

-- the form that a word stands for
abbrev pub form_at : Table → Objects → Word → Object QualifiedName
form_at t h w = form_of t.symbols (object_of h w)

abbrev pub forms_at : Table → Objects → List Word → List (Object QualifiedName)
forms_at t h ws = map (form_at t h) ws

-- the word lies in the heap, and its symbols are known
pub record IsWhole (t : Table) (h : Objects) (w : Word) : Type 0 where
  pub lies : Lies h w
  pub known : Knows (length t.symbols) (object_of h w)

abbrev pub AreWhole : Table → Objects → List Word → Type 0
AreWhole t h [] = Unit {0}
AreWhole t h (w ∷ ws) = IsWhole t h w × AreWhole t h ws

-- the word stands for the form
pub record StandsFor (t : Table) (h : Objects) (w : Word) (form : Object QualifiedName) : Type 0 where
  pub whole : IsWhole t h w
  pub is : form_at t h w ≡ form

-- table and heap have grown: what a word, a symbol and a package stood for, they stand for
pub record Grown (t t' : Table) (h h' : Objects) : Type 0 where
  pub heap : heaps.Extends h h'
  pub table : tables.Extends t t'
  pub lies : (w : Word) → Lies h w → Lies h' w
  pub object : (w : Word) → Lies h w → object_of h' w ≡ object_of h w
  pub whole : (w : Word) → IsWhole t h w → IsWhole t' h' w
  pub form : (w : Word) → IsWhole t h w → form_at t' h' w ≡ form_at t h w
  pub wholes : (ws : List Word) → AreWhole t h ws → AreWhole t' h' ws
  pub forms : (ws : List Word) → AreWhole t h ws → forms_at t' h' ws ≡ forms_at t h ws
  pub stands : (w : Word) (form : Object QualifiedName) → StandsFor t h w form → StandsFor t' h' w form
  pub same_symbol : (n : ℕ) → n < length t.symbols → symbol_at t'.symbols n ≡ symbol_at t.symbols n
  pub same_package : (n : ℕ) → n < length t.packages → package_at t'.packages n ≡ package_at t.packages n
