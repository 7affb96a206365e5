-- What is said of lists that stand for one stobj, as laws.
use Rattle.std.specs.Prelude.{◌≡◌, ℕ, List}
use Rattle.std.specs.Bool.{Decides}
use Rattle.std.specs.Cmp.{IsTotalOrder}
use Rattle.std.specs.declared.cmp.Ordering.{Ordering}
use Rattle.std.specs.declared.cmp.Ordering.TheVariants.{Equal}
use Rattle.model_objects.specs.Object.{Object, object_cmp}
use Rattle.model_prims.specs.Kinds.{SymbolKind, same_object}
use Rattle.model_lists.specs.Lists.{StobjList}
use Rattle.model_lists.specs.Layouts.{Layout, Scalar, Array, Hash, Children, NoField, Field, initial, field_layout}
use Rattle.model_lists.specs.Normal.{normal}
use Rattle.model_lists.specs.LiveLists.{HasFields, AreAlike}
use Rattle.model_lists.specs.Effects.{Effect, Refuses, Reads, Writes, accessed, changed, measured, lengthened, hash_read, hash_bound, hash_looked_up, hash_put, hash_removed, hash_counted, hash_cleared}

-- a new stobj has the fields of its layout, and stands for its own list
pub record NewStobjsStand (S : Type 0) : Type 0 where
  pub fields : (layout : Layout S) → HasFields layout (initial layout)
  pub normal : (names : S → S → Ordering) (layout : Layout S) → normal names (initial layout) ≡ initial layout

module _ {S : Type 0} (names : S → S → Ordering) where
  -- the same is refused or read, or the lists that are written are alike
  abbrev pub AlikeEffects : Effect S → Effect S → Type 0
  AlikeEffects Refuses Refuses = Unit {0}
  AlikeEffects Refuses (Reads bs) = ⊥
  AlikeEffects Refuses (Writes m) = ⊥
  AlikeEffects (Reads os) Refuses = ⊥
  AlikeEffects (Reads os) (Reads bs) = os ≡ bs
  AlikeEffects (Reads os) (Writes m) = ⊥
  AlikeEffects (Writes l) Refuses = ⊥
  AlikeEffects (Writes l) (Reads bs) = ⊥
  AlikeEffects (Writes l) (Writes m) = AreAlike names l m

-- what is written has the fields of the layout
abbrev pub KeepsFields : {S : Type 0} → Layout S → Effect S → Type 0
KeepsFields whole Refuses = Unit {0}
KeepsFields whole (Reads os) = Unit {0}
KeepsFields whole (Writes l) = HasFields whole l

-- the layout is that of a hash field
abbrev pub IsHashField : {S : Type 0} → Layout S → Type 0
IsHashField (Scalar t o) = ⊥
IsHashField (Array t o n resizable) = ⊥
IsHashField (Hash test) = Unit {0}
IsHashField (Children n child) = ⊥
IsHashField NoField = ⊥
IsHashField (Field first others) = ⊥

module _ {S : Type 0} (k : SymbolKind S) (names : S → S → Ordering) where
  -- a total order of symbols, in which objects are the same exactly where they compare as equal
  pub record Orders : Type 0 where
    pub total : IsTotalOrder names
    pub exact : (s t : S) → names s t ≡ Equal → s ≡ t
    pub same : (a b : Object S) → Decides (same_object k a b) (object_cmp names a b ≡ Equal)

  -- what reading and writing give depends only on what the list stands for
  pub record ListsAreReadAlike : Type 0 where
    pub accessed : (layout : Layout S) (f : ℕ) (args : List (Object S)) (l m : StobjList S) → AreAlike names l m
        → AlikeEffects names (accessed k layout f args l) (accessed k layout f args m)
    pub changed : (layout : Layout S) (f : ℕ) (args : List (Object S)) (l m : StobjList S) → AreAlike names l m
        → AlikeEffects names (changed k layout f args l) (changed k layout f args m)
    pub measured : (f : ℕ) (l m : StobjList S) → AreAlike names l m
        → AlikeEffects names (measured k f l) (measured k f m)
    pub lengthened : (layout : Layout S) (f : ℕ) (args : List (Object S)) (l m : StobjList S) → AreAlike names l m
        → AlikeEffects names (lengthened k layout f args l) (lengthened k layout f args m)
    pub hash_read : (layout : Layout S) (f : ℕ) (args : List (Object S)) (l m : StobjList S) → AreAlike names l m
        → AlikeEffects names (hash_read k layout f args l) (hash_read k layout f args m)
    pub hash_bound : (layout : Layout S) (f : ℕ) (args : List (Object S)) (l m : StobjList S) → AreAlike names l m
        → AlikeEffects names (hash_bound k layout f args l) (hash_bound k layout f args m)
    pub hash_looked_up : (layout : Layout S) (f : ℕ) (args : List (Object S)) (l m : StobjList S) → AreAlike names l m
        → AlikeEffects names (hash_looked_up k layout f args l) (hash_looked_up k layout f args m)
    pub hash_put : (layout : Layout S) (f : ℕ) (args : List (Object S)) (l m : StobjList S) → AreAlike names l m
        → AlikeEffects names (hash_put k layout f args l) (hash_put k layout f args m)
    pub hash_removed : (layout : Layout S) (f : ℕ) (args : List (Object S)) (l m : StobjList S) → AreAlike names l m
        → AlikeEffects names (hash_removed k layout f args l) (hash_removed k layout f args m)
    pub hash_counted : (f : ℕ) (l m : StobjList S) → AreAlike names l m
        → AlikeEffects names (hash_counted k f l) (hash_counted k f m)
    pub hash_cleared : (f : ℕ) (l m : StobjList S) → AreAlike names l m
        → AlikeEffects names (hash_cleared k f l) (hash_cleared k f m)

module _ {S : Type 0} (k : SymbolKind S) where
  -- what is written has the fields of the layout, and reading writes nothing; clearing asks for no key, so the field has to be a hash field
  pub record WritesKeepFields : Type 0 where
    pub accessed : (layout : Layout S) (f : ℕ) (args : List (Object S)) (whole : Layout S) (l : StobjList S)
        → KeepsFields whole (accessed k layout f args l)
    pub changed : (layout : Layout S) (f : ℕ) (args : List (Object S)) (whole : Layout S) (l : StobjList S)
        → field_layout f whole ≡ layout → HasFields whole l → KeepsFields whole (changed k layout f args l)
    pub measured : (f : ℕ) (whole : Layout S) (l : StobjList S) → KeepsFields whole (measured k f l)
    pub lengthened : (layout : Layout S) (f : ℕ) (args : List (Object S)) (whole : Layout S) (l : StobjList S)
        → field_layout f whole ≡ layout → HasFields whole l → KeepsFields whole (lengthened k layout f args l)
    pub hash_read : (layout : Layout S) (f : ℕ) (args : List (Object S)) (whole : Layout S) (l : StobjList S)
        → KeepsFields whole (hash_read k layout f args l)
    pub hash_bound : (layout : Layout S) (f : ℕ) (args : List (Object S)) (whole : Layout S) (l : StobjList S)
        → KeepsFields whole (hash_bound k layout f args l)
    pub hash_looked_up : (layout : Layout S) (f : ℕ) (args : List (Object S)) (whole : Layout S) (l : StobjList S)
        → KeepsFields whole (hash_looked_up k layout f args l)
    pub hash_put : (layout : Layout S) (f : ℕ) (args : List (Object S)) (whole : Layout S) (l : StobjList S)
        → field_layout f whole ≡ layout → HasFields whole l → KeepsFields whole (hash_put k layout f args l)
    pub hash_removed : (layout : Layout S) (f : ℕ) (args : List (Object S)) (whole : Layout S) (l : StobjList S)
        → field_layout f whole ≡ layout → HasFields whole l → KeepsFields whole (hash_removed k layout f args l)
    pub hash_counted : (f : ℕ) (whole : Layout S) (l : StobjList S) → KeepsFields whole (hash_counted k f l)
    pub hash_cleared : (layout : Layout S) (f : ℕ) (whole : Layout S) (l : StobjList S)
        → field_layout f whole ≡ layout → IsHashField layout → HasFields whole l → KeepsFields whole (hash_cleared k f l)
