-- Whole books: the program's words, an input, what is written, and the status. Written by tools/rows.py.
use Rattle.std.specs.Prelude.{◌≡◌, ℕ, List, [], ◌∷◌, ◌++◌, codes}
use Rattle.acl_base.specs.declared.status.Status.TheVariants.{Done, Errors}
use Rattle.model_books.specs.Output.{output, lines}

-- abstract outputs
abbrev pub abstract_outputs_input : List ℕ
abstract_outputs_input = lines (codes "(defstobj mem$c (a$c :type (array (integer 0 9) (4)) :initially 0))" ∷ codes "(defun mem$ap (x) (true-listp x))" ∷ codes "(defun create-mem$a () '((0 0 0 0)))" ∷ codes "(defun-nx mem$corr (mem$c x) (equal mem$c x))" ∷ codes "(defun put$a (i v x) (declare (xargs :guard (mem$ap x))) (update-nth 0 (update-nth i v (car x)) x))" ∷ codes "(defun-nx swap$a (i x) (mv (nth i (car x)) x))" ∷ codes "(defun swap$c (i mem$c) (declare (xargs :stobjs mem$c :guard (and (natp i) (< i (a$c-length mem$c))))) (mv (a$ci i mem$c) mem$c))" ∷ codes "(defabsstobj mem :exports ((put :exec update-a$ci) swap))" ∷ codes "(put 1 5 mem)" ∷ codes "(swap 1 mem)" ∷ codes "(put 4 5 mem)" ∷ codes "(swap 4 mem)" ∷ codes "(:show mem)" ∷ codes "(:show mem$c)" ∷ [])

abbrev pub abstract_outputs_written : List ℕ
abstract_outputs_written = lines (codes "MEM$C" ∷ codes "MEM$AP" ∷ codes "CREATE-MEM$A" ∷ codes "MEM$CORR" ∷ codes "PUT$A" ∷ codes "SWAP$A" ∷ codes "SWAP$C" ∷ codes "MEM" ∷ codes "CREATE-MEM{CORRESPONDENCE}: (MEM$CORR (CREATE-MEM$C) (CREATE-MEM$A))" ∷ codes "CREATE-MEM{PRESERVED}: (MEM$AP (CREATE-MEM$A))" ∷ codes "PUT{CORRESPONDENCE}: (IMPLIES (AND (MEM$CORR MEM$C MEM) (MEM$AP MEM)) (MEM$CORR (UPDATE-A$CI I V MEM$C) (PUT$A I V MEM)))" ∷ codes "PUT{GUARD-THM}: (IMPLIES (AND (MEM$CORR MEM$C MEM) (MEM$AP MEM)) (IF (IF (INTEGERP I) (IF (NOT (< I (QUOTE 0))) (< I (A$C-LENGTH MEM$C)) (QUOTE NIL)) (QUOTE NIL)) (IF (INTEGERP V) (IF (NOT (< V (QUOTE 0))) (NOT (< (QUOTE 9) V)) (QUOTE NIL)) (QUOTE NIL)) (QUOTE NIL)))" ∷ codes "PUT{PRESERVED}: (IMPLIES (AND (MEM$AP MEM) (MEM$AP MEM)) (MEM$AP (PUT$A I V MEM)))" ∷ codes "SWAP{CORRESPONDENCE}: (IMPLIES (MEM$CORR MEM$C MEM) (AND (EQUAL (NTH (QUOTE 0) (SWAP$A I MEM)) (NTH (QUOTE 0) (SWAP$C I MEM$C))) (MEM$CORR (NTH (QUOTE 1) (SWAP$C I MEM$C)) (NTH (QUOTE 1) (SWAP$A I MEM)))))" ∷ codes "SWAP{GUARD-THM}: (IMPLIES (MEM$CORR MEM$C MEM) (IF (NATP I) (< I (A$C-LENGTH MEM$C)) (QUOTE NIL)))" ∷ codes "SWAP{PRESERVED}: (IMPLIES (MEM$AP MEM) (MEM$AP (NTH (QUOTE 1) (SWAP$A I MEM))))" ∷ codes "<mem>" ∷ codes "(5 <mem>)" ∷ codes "Guard violation: (UPDATE-A$CI 4 5 <mem>) inside PUT" ∷ codes "Guard violation: (SWAP$C 4 <mem>) inside SWAP" ∷ codes "((0 5 0 0))" ∷ codes "((0 0 0 0))" ∷ codes "; 14 commands, 18 calls, 2 errors" ∷ [])

pub record AbstractOutputs : Type 0 where
  pub is_written : output ([]) abstract_outputs_input ≡ record { bytes = abstract_outputs_written; status = Errors }

-- abstract refusals
abbrev pub abstract_refusals_input : List ℕ
abstract_refusals_input = lines (codes "(defstobj st$c (val$c :type integer :initially 0))" ∷ codes "(defun st$ap (x) (true-listp x))" ∷ codes "(defun create-st$a () '(0))" ∷ codes "(defun val$a (x) (declare (xargs :guard (st$ap x))) (car x))" ∷ codes "(defun update-val$a (v x) (declare (xargs :guard (and (integerp v) (st$ap x)))) (update-nth 0 v x))" ∷ codes "(defun-nx st$corr (st$c x) (equal st$c x))" ∷ codes "(defun odd$a (x) (declare (xargs :guard (consp x))) x)" ∷ codes "(defun-nx named$a (st$c x) (declare (xargs :guard (st$ap x))) (update-nth 0 st$c x))" ∷ codes "(defabsstobj)" ∷ codes "(defabsstobj st :foo 1)" ∷ codes "(defabsstobj st :foundation st$c :concrete st$c)" ∷ codes "(defabsstobj st :recognizer (stp :foo 1))" ∷ codes "(defabsstobj st :corr-fn 5)" ∷ codes "(defabsstobj st :exports 5)" ∷ codes "(defabsstobj st :exports ((val :logic 5)))" ∷ codes "(defabsstobj 5)" ∷ codes "(defabsstobj st :exports (5) :creator car)" ∷ codes "(defabsstobj st :exports (val 5))" ∷ codes "(defabsstobj st :exports (val val))" ∷ codes "(defabsstobj st :exports (val$a))" ∷ codes "(defabsstobj st :foundation nope :exports (none))" ∷ codes "(defabsstobj s2)" ∷ codes "(defabsstobj st :corr-fn nope :exports (none))" ∷ codes "(defabsstobj st :exports (none))" ∷ codes "(defabsstobj st :exports ((none :logic val$a)))" ∷ codes "(defabsstobj st :recognizer (stp :logic update-val$a))" ∷ codes "(defabsstobj st :creator (create-st :exec st$cp))" ∷ codes "(defabsstobj st :corr-fn st$ap)" ∷ codes "(defabsstobj st :exports ((val :logic update-val$a)))" ∷ codes "(defabsstobj st :exports ((val :logic car)))" ∷ codes "(defabsstobj st :exports ((update-val :logic named$a)))" ∷ codes "(defabsstobj st :exports ((odd :exec val$c)))" ∷ codes "(defabsstobj st)" ∷ codes "(stp st)" ∷ codes "(:show st)" ∷ codes "(create-st)" ∷ codes "(defstobj par (k :type st))" ∷ [])

abbrev pub abstract_refusals_written : List ℕ
abstract_refusals_written = lines (codes "ST$C" ∷ codes "ST$AP" ∷ codes "CREATE-ST$A" ∷ codes "VAL$A" ∷ codes "UPDATE-VAL$A" ∷ codes "ST$CORR" ∷ codes "ODD$A" ∷ codes "NAMED$A" ∷ codes "Refused: BadShape DEFABSSTOBJ" ∷ codes "Refused: BadShape DEFABSSTOBJ" ∷ codes "Refused: BadShape DEFABSSTOBJ" ∷ codes "Refused: BadShape DEFABSSTOBJ" ∷ codes "Refused: BadShape DEFABSSTOBJ" ∷ codes "Refused: BadShape DEFABSSTOBJ" ∷ codes "Refused: BadShape DEFABSSTOBJ" ∷ codes "Refused: BadName 5" ∷ codes "Refused: BadName CAR" ∷ codes "Refused: BadName 5" ∷ codes "Refused: NameInUse VAL" ∷ codes "Refused: NameInUse VAL$A" ∷ codes "Refused: FoundationNotConcrete NOPE" ∷ codes "Refused: FoundationNotConcrete S2$C" ∷ codes "Refused: MissingFunction NOPE" ∷ codes "Refused: MissingFunction NONE$A" ∷ codes "Refused: MissingFunction NONE$C" ∷ codes "Refused: SignatureMismatch STP" ∷ codes "Refused: SignatureMismatch CREATE-ST" ∷ codes "Refused: SignatureMismatch ST$AP" ∷ codes "Refused: SignatureMismatch VAL" ∷ codes "Refused: SignatureMismatch VAL" ∷ codes "Refused: SignatureMismatch UPDATE-VAL" ∷ codes "Refused: GuardNotExecutable ODD S3 at (0)" ∷ codes "ST" ∷ codes "CREATE-ST{CORRESPONDENCE}: (ST$CORR (CREATE-ST$C) (CREATE-ST$A))" ∷ codes "CREATE-ST{PRESERVED}: (ST$AP (CREATE-ST$A))" ∷ codes "T" ∷ codes "(0)" ∷ codes "Refused: S12 at ()" ∷ codes "Refused: BadType K" ∷ codes "; 37 commands, 2 calls, 26 errors" ∷ [])

pub record AbstractRefusals : Type 0 where
  pub is_written : output ([]) abstract_refusals_input ≡ record { bytes = abstract_refusals_written; status = Errors }

-- children rules
abbrev pub children_rules_input : List ℕ
children_rules_input = lines (codes "(defstobj st (pc :type integer :initially 0))" ∷ codes "(defstobj st2 (pc2 :type integer :initially 0) :congruent-to st)" ∷ codes "(defstobj other (o))" ∷ codes "(defstobj par (kid :type st) (kids :type (array st (2))))" ∷ codes "(kid par)" ∷ codes "(update-kid st par)" ∷ codes "(stobj-let ((st (kid par))) (x) (pc st) x)" ∷ codes "(stobj-let ((st (kid par))) (st) (update-pc 5 st) par)" ∷ codes "(stobj-let ((st (kid par)) (st2 (kid par))) (x) (pc st) x)" ∷ codes "(stobj-let ((st (kidsi 0 par)) (st2 (kidsi 0 par))) (x) 1 x)" ∷ codes "(stobj-let ((st (kidsi 0 par)) (st2 (kidsi 1 par))) (st2 st) (let ((st (update-pc 7 st))) (let ((st2 (update-pc 8 st2))) (mv st2 st))) par)" ∷ codes "(stobj-let ((st (pc par))) (x) 1 x)" ∷ codes "(stobj-let ((other (kid par))) (x) 1 x)" ∷ codes "(stobj-let ((st (kid par))) () 1 2)" ∷ codes "(stobj-let ((st (kid par))) (st) st 5)" ∷ codes "(stobj-let ((st (kidsi 'a par))) (x) 1 x)" ∷ codes "(stobj-let ((st (kidsi 2 par))) (x) 1 x)" ∷ codes "(stobj-let ((st (kid par))) (x) (kids-length par) x)" ∷ codes "(stobj-let ((st (kid par))) (x) 1 (pc st))" ∷ codes "(with-local-stobj st (mv-let (x st) (mv (pc st) st) x))" ∷ codes "(with-local-stobj st (mv-let (x y) (mv 1 2) x))" ∷ codes "(with-local-stobj foo (mv-let (x foo) (mv 1 2) x))" ∷ codes "(with-local-stobj st (mv-let (x st) (mv 1 2) x))" ∷ codes "(with-local-stobj st (mv-let (x st) (mv (pc st) st) (pc st)))" ∷ codes "(:show par)" ∷ codes "(:show st)" ∷ [])

abbrev pub children_rules_written : List ℕ
children_rules_written = lines (codes "ST" ∷ codes "ST2" ∷ codes "OTHER" ∷ codes "PAR" ∷ codes "Refused: S12 at ()" ∷ codes "Refused: S12 at ()" ∷ codes "0" ∷ codes "<par>" ∷ codes "Refused: S13 at ()" ∷ codes "Refused: S13 at ()" ∷ codes "<par>" ∷ codes "Refused: S13 at ()" ∷ codes "Refused: S13 at ()" ∷ codes "Refused: S13 at ()" ∷ codes "Refused: S13 at ()" ∷ codes "Refused: S13 at ()" ∷ codes "Guard violation: (KIDSI 2 <par>)" ∷ codes "Refused: S1 at (0 0)" ∷ codes "Refused: S1 at (1 0)" ∷ codes "0" ∷ codes "Refused: S14 at ()" ∷ codes "Refused: S14 at ()" ∷ codes "Refused: S14 at ()" ∷ codes "Refused: S1 at (1 0)" ∷ codes "((5) ((7) (8)))" ∷ codes "(0)" ∷ codes "; 26 commands, 14 calls, 16 errors" ∷ [])

pub record ChildrenRules : Type 0 where
  pub is_written : output ([]) children_rules_input ≡ record { bytes = children_rules_written; status = Errors }

-- congruence
abbrev pub congruence_input : List ℕ
congruence_input = lines (codes "(defstobj c1 (ca :type integer :initially 1) (cb))" ∷ codes "(defstobj c2 (da :type integer :initially 1) (db) :congruent-to c1)" ∷ codes "(defstobj c3 (ea :type integer :initially 2) (eb) :congruent-to c1)" ∷ codes "(defstobj c3 (ea :type (integer * *) :initially 1) (eb) :congruent-to c1)" ∷ codes "(defstobj c3 (ea :type integer :initially 1) :congruent-to c1)" ∷ codes "(defstobj c3 (ea :type integer :initially 1) (eb) (ec) :congruent-to c1)" ∷ codes "(defstobj c1 (ea) :congruent-to c2)" ∷ codes "(defstobj c4 (fa :type integer :initially 1) (fb) :congruent-to c2)" ∷ codes "(update-ca 5 c4)" ∷ codes "(defstobj par (k :type c1))" ∷ codes "(defstobj par2 (k2 :type c2) :congruent-to par)" ∷ codes "(defstobj par2 (k2 :type c1) :congruent-to par)" ∷ codes "(defstobj par3 (k3 :type c1 :initially 5))" ∷ codes "(defstobj par3 (k3 :type (array c1 (65537))))" ∷ codes "(defstobj par3 (k3 :type (array c1 (2)) :resizable t))" ∷ codes "(defstobj par3 (k3 :type (array c4 (2))))" ∷ codes "(:show par3)" ∷ codes "(k-length par3)" ∷ codes "(k3-length par3)" ∷ codes "(k par)" ∷ [])

abbrev pub congruence_written : List ℕ
congruence_written = lines (codes "C1" ∷ codes "C2" ∷ codes "Refused: CongruenceMismatch 0" ∷ codes "Refused: CongruenceMismatch 0" ∷ codes "Refused: CongruenceMismatch 1" ∷ codes "Refused: CongruenceMismatch 2" ∷ codes "Refused: NameInUse C1" ∷ codes "C4" ∷ codes "<c4>" ∷ codes "PAR" ∷ codes "Refused: CongruenceMismatch 0" ∷ codes "PAR2" ∷ codes "Refused: BadInitial K3" ∷ codes "Refused: BadType K3" ∷ codes "Refused: BadType K3" ∷ codes "PAR3" ∷ codes "(((1 NIL) (1 NIL)))" ∷ codes "Refused: UnknownFunction K-LENGTH" ∷ codes "2" ∷ codes "Refused: S12 at ()" ∷ codes "; 20 commands, 2 calls, 11 errors" ∷ [])

pub record Congruence : Type 0 where
  pub is_written : output ([]) congruence_input ≡ record { bytes = congruence_written; status = Errors }

-- default names
abbrev pub default_names_input : List ℕ
default_names_input = lines (codes "(defstobj zero$c (zv))" ∷ codes "(defabsstobj zero)" ∷ codes "(defpkg \"P\" '(:stp nil quote))" ∷ codes "(in-package \"P\")" ∷ codes "(acl2::defstobj st$c (v))" ∷ codes "(acl2::defun st$ap (x) x)" ∷ codes "(acl2::defun create-st$a () 'a)" ∷ codes "(acl2::defun st$corr (a b) a)" ∷ codes "(acl2::defabsstobj st)" ∷ codes "(:stp st)" ∷ [])

abbrev pub default_names_written : List ℕ
default_names_written = lines (codes "ZERO$C" ∷ codes "Refused: BadName ZEROP" ∷ codes "\"P\"" ∷ codes "\"P\"" ∷ codes "ST$C" ∷ codes "ST$AP" ∷ codes "CREATE-ST$A" ∷ codes "ST$CORR" ∷ codes "Refused: BadName :STP" ∷ codes "Refused: NotSupported :STP" ∷ codes "; 10 commands, 0 calls, 3 errors" ∷ [])

pub record DefaultNames : Type 0 where
  pub is_written : output ([]) default_names_input ≡ record { bytes = default_names_written; status = Errors }

-- lists at stops
abbrev pub lists_at_stops_input : List ℕ
lists_at_stops_input = lines (codes "(defstobj kid (v :type integer :initially 0))" ∷ codes "(defstobj par (k :type kid) (n :type integer :initially 0))" ∷ codes "(defun bump (kid) (declare (xargs :stobjs kid)) (update-v 7 kid))" ∷ codes "(stobj-let ((kid (k par))) (kid) (bump kid) par)" ∷ codes "(:show par)" ∷ codes "(stobj-let ((kid (k par))) (kid) (let ((kid (update-v 1 kid))) (let ((kid (update-v 2 kid))) (let ((kid (update-v 3 kid))) (update-v 4 kid)))) par)" ∷ codes "(:show par)" ∷ codes "(stobj-let ((kid (k par))) (kid) (let ((kid (update-v 10 kid))) (let ((kid (update-v 11 kid))) (let ((kid (update-v 12 kid))) (let ((kid (update-v 13 kid))) (update-v 14 kid))))) par)" ∷ codes "(:show par)" ∷ codes "(let ((x (car (cdr (cdr (cdr (cdr '(1 2 3 4 5)))))))) (stobj-let ((kid (k par))) (kid) (update-v x kid) par))" ∷ codes "(:show par)" ∷ codes "(stobj-let ((kid (k par))) (kid) (let ((kid (update-v 20 kid))) (update-v 'a kid)) par)" ∷ codes "(:show par)" ∷ codes "(defun two (par) (declare (xargs :stobjs par)) (let ((par (update-n 5 par))) (update-n 'a par)))" ∷ codes "(two par)" ∷ codes "(:show par)" ∷ codes "(with-local-stobj kid (mv-let (x kid) (let ((kid (update-v 5 kid))) (mv (car (v kid)) kid)) x))" ∷ codes "(:show kid)" ∷ [])

abbrev pub lists_at_stops_written : List ℕ
lists_at_stops_written = lines (codes "KID" ∷ codes "PAR" ∷ codes "BUMP" ∷ codes "<par>" ∷ codes "((7) 0)" ∷ codes "Step limit" ∷ codes "((4) 0)" ∷ codes "Step limit" ∷ codes "((13) 0)" ∷ codes "Step limit" ∷ codes "((13) 0)" ∷ codes "Guard violation: (UPDATE-V A <kid>)" ∷ codes "((20) 0)" ∷ codes "TWO" ∷ codes "Guard violation: (UPDATE-N A <par>)" ∷ codes "((20) 5)" ∷ codes "Guard violation: (CAR 5)" ∷ codes "(0)" ∷ codes "; 18 commands, 29 calls, 6 errors" ∷ [])

pub record ListsAtStops : Type 0 where
  pub is_written : output (codes "--steps=5" ∷ []) lists_at_stops_input ≡ record { bytes = lists_at_stops_written; status = Errors }

-- nested once too deep
abbrev pub nested_once_too_deep_input : List ℕ
nested_once_too_deep_input = lines (codes "(list 0 0 0 0 0 0 0 0 0 0 0 0 0 0 0 0 0 0 0 0 0 0 0 0 0 0 0 0 0 0 0 0 0 0 0 0 0 0 0 0 0 0 0 0 0 0 0 0 0 0 0 0 0 0 0 0 0 0 0 0 0 0 0 0 0 0 0 0 0 0 0 0 0 0 0 0 0 0 0 0 0 0 0 0 0 0 0 0 0 0 0 0 0 0 0 0 0 0 0 0 0 0 0 0 0 0 0 0 0 0 0 0 0 0 0 0 0 0 0 0 0 0 0 0 0 0 0 0 0 0 0 0 0 0 0 0 0 0 0 0 0 0 0 0 0 0 0 0 0 0 0 0 0 0 0 0 0 0 0 0 0 0 0 0 0 0 0 0 0 0 0 0 0 0 0 0 0 0 0 0 0 0 0 0 0 0 0 0 0 0 0 0 0 0 0 0 0 0 0 0 0 0 0 0 0 0 0 0 0 0 0 0 0 0 0 0 0 0 0 0 0 0 0 0 0 0 0 0 0 0 0 0 0 0 0 0 0 0 0 0 0 0 0 0 0 0 0 0 0 0 0 0 0 0 0 0 0 0 0 0 0 0 0 0 0 0 0 0 0 0 0 0 0 0 0 0 0 0 0 0 0 0 0 0 0 0 0 0 0 0 0 0 0 0 0 0 0 0 0 0 0 0 0 0 0 0 0 0 0 0 0 0 0 0 0 0 0 0 0 0 0 0 0 0 0 0 0 0 0 0 0 0 0 0 0 0 0 0 0 0 0 0 0 0 0 0 0 0 0 0 0 0 0 0 0 0 0 0 0 0 0 0 0 0 0 0 0 0 0 0 0 0 0 0 0 0 0 0 0 0 0 0 0 0 0 0 0 0 0 0 0 0 0 0 0 0 0 0 0 0 0 0 0 0 0 0 0 0 0 0 0 0 0 0 0 0 0 0 0 0 0 0 0 0 0 0 0 0 0 0 0 0 0 0 0 0 0 0 0 0 0 0 0 0 0 0 0 0 0 0 0 0 0 0 0 0 0 0 0 0 0 0 0 0 0 0 0 0 0 0 0 0 0 0 0 0 0 0 0 0 0 0 0 0 0 0 0 0 0 0 0 0 0 0 0 0 0 0 0 0 0 0 0 0 0 0 0 0 0 0 0 0 0 0 0 0 0 0 0 0 0 0 0 0 0 0 0 0 0 0 0 0 0 0 0 0 0 0 0 0 0 0 0 0 0 0 0 0 0 0 0 0 0 0 0 0 0 0 0 0 0 0 0 0 0 0 0 0 0 0 0 0 0 0 0 0 0 0 0 0 0 0 0 0 0 0 0 0 0 0 0 0 0 0 0 0 0 0 0 0 0 0 0 0 0 0 0 0 0 0 0 0 0 0 0 0 0 0 0 0 0 0 0 0 0 0 0 0 0 0 0 0 0 0 0 0 0 0 0 0 0 0 0 0 0 0 0 0 0 0 0 0 0 0 0 0 0 0 0 0 0 0 0 0 0 0 0 0 0 0 0 0 0 0 0 0 0 0 0 0 0 0 0 0 0 0 0 0 0 0 0 0 0 0 0 0 0 0 0 0 0 0 0 0 0 0 0 0 0 0 0 0 0 0 0 0 0 0 0 0 0 0 0 0 0 0 0 0 0 0 0 0 0 0 0 0 0 0 0 0 0 0 0 0 0 0 0 0 0 0 0 0 0 0 0 0 0 0 0 0 0 0 0 0 0 0 0 0 0 0 0 0 0 0 0 0 0 0 0 0 0 0 0 0 0 0 0 0 0 0 0 0 0 0 0 0 0 0 0 0 0 0 0 0 0 0 0 0 0 0 0 0 0 0 0 0 0 0 0 0 0 0 0 0 0 0 0 0 0 0 0 0 0 0 0 0 0 0 0 0 0 0 0 0 0 0 0 0 0 0 0 0 0 0 0 0 0 0 0 0 0 0 0 0 0 0 0 0 0 0 0 0 0 0 0 0 0 0 0 0 0 0 0 0 0 0 0 0 0 0 0 0 0 0 0 0 0 0 0 0 0 0 0 0 0 0 0 0 0 0 0 0 0 0 0 0 0 0 0 0 0 0 0 0 0 0 0 0 0 0 0 0 0 0 0 0 0 0 0 0 0 0 0 0 0 0 0 0 0 0 0 0 0 0 0 0 0 0 0 0 0 0 0 0 0 0 0 0 0 0 0 0 0 0 0 0 0 0 0 0 0 0 0 0 0 0 0 0 0 0 0 0 0 0 0 0 0 0 0 0 0 0 0 0 0 0 0 0 0 0 0 0 0 0 0 0 0 0 0 0 0 0 0 0 0 0 0 0 0 0 0 0 0 0 0 0 0 0 0 0 0 0 0 0 0 0 0 0 0 0 0 0 0 0 0 0 0 0 0 0 0 0 0 0 0 0 0 0 0 0 0 0 0 0 0 0 0 0 0 0 0 0 0 0 0 0 0 0 0 0 0 0 0 0 0 0 0 0 0 0 0 0 0 0 0 0 0 0 0 0 0 0 0 0 0 0 0 0 0 0 0 0 0 0 0 0 0 0 0 0 0 0 0 0 0 0 0 0 0 0 0 0 0 0 0 0 0 0 0 0 0 0 0 0 0 0 0 0 0 0 0 0 0 0 0 0 0 0 0 0 0 0 0 0 0 0 0 0 0 0 0 0 0 0 0 0 0 0 0 0 0 0 0 0 0 0 0 0 0 0 0 0 0 0 0 0 0 0 0 0 0 0 0 0 0 0 0 0 0 0 0 0 0 0 0 0 0 0 0 0 0 0 0 0 0 0 0 0 0 0 0 0 0 0 0 0 0 0 0 0 0 0 0 0 0 0 0 0 0 0 0 0 0 0 0 0 0 0 0 0 0 0 0 0 0 0 0 0 0 0 0 0 0 0 0 0 0 0 0 0 0 0 0 0 0 0 0 0 0 0 0 0 0 0 0 0 0 0 0 0 0 0 0 0 0 0 0 0 0 0 0 0 0 0 0 0 0 0 0 0 0 0 0 0 0 0 0 0 0 0 0 0 0 0 0 0 0 0 0 0 0 0 0 0 0 0 0 0 0 0 0 0 0 0 0 0 0 0 0 0 0 0 0 0 0 0 0 0 0 0 0 0 0 0 0 0 0 0 0 0 0 0 0 0 0 0 0 0 0 0 0 0 0 0 0 0 0 0 0 0 0 0 0 0 0 0 0 0 0 0 0 0 0 0 0 0 0 0 0 0 0 0 0 0 0 0 0 0 0 0 0 0 0 0 0 0 0 0 0 0 0 0 0 0 0 0 0 0 0 0 0 0 0 0 0 0 0 0 0 0 0 0 0 0 0 0 0 0 0 0 0 0 0 0 0 0 0 0 0 0 0 0 0 0 0 0 0 0 0 0 0 0 0 0 0 0 0 0 0 0 0 0 0 0 0 0 0 0 0 0 0 0 0 0 0 0 0 0 0 0 0 0 0 0 0 0 0 0 0 0 0 0 0 0 0 0 0 0 0 0 0 0 0 0 0 0 0 0 0 0 0 0 0 0 0 0 0 0 0 0 0 0 0 0 0 0 0 0 0 0 0 0 0 0 0 0 0 0 0 0 0 0 0 0 0 0 0 0 0 0 0 0 0 0 0 0 0 0 0 0 0 0 0 0 0 0 0 0 0 0 0 0 0 0 0 0 0 0 0 0 0 0 0 0 0 0 0 0 0 0 0 0 0 0 0 0 0 0 0 0 0 0 0 0 0 0 0 0 0 0 0 0 0 0 0 0 0 0 0 0 0 0 0 0 0 0 0 0 0 0 0 0 0 0 0 0 0 0 0 0 0 0 0 0 0 0 0 0 0 0 0 0 0 0 0 0 0 0 0 0 0 0 0 0 0 0 0 0 0 0 0 0 0 0 0 0 0 0 0 0 0 0 0 0 0 0 0 0 0 0 0 0 0 0 0 0 0 0 0 0 0 0 0 0 0 0 0 0 0 0 0 0 0 0 0 0 0 0 0 0 0 0 0 0 0 0 0 0 0 0 0 0 0 0 0 0 0 0 0 0 0 0 0 0 0 0 0 0 0 0 0 0 0 0 0 0 0 0 0 0 0 0 0 0 0 0 0 0 0 0 0 0 0 0 0 0 0 0 0 0 0 0 0 0 0 0 0 0 0 0 0 0 0 0 0 0 0 0 0 0 0 0 0 0 0 0 0 0 0 0 0 0 0 0 0 0 0 0 0 0 0 0 0 0 0 0 0 0 0 0 0 0 0 0 0 0 0 0 0 0 0 0 0 0 0 0 0 0 0 0 0 0 0 0 0 0 0 0 0 0 0 0 0 0 0 0 0 0 0 0 0 0 0 0 0 0 0 0 0 0 0 0 0 0 0 0 0 0 0 0 0 0 0 0 0 0 0 0 0 0 0 0 0 0 0 0 0 0 0 0 0 0 0 0 0 0 0 0 0 0 0 0 0 0 0 0 0 0 0 0 0 0 0 0 0 0 0 0 0 0 0 0 0 0 0 0 0 0 0 0 0 0 0 0 0 0 0 0 0 0 0 0 0 0 0 0 0 0 0 0 0 0 0 0 0 0 0 0 0 0 0 0 0 0 0 0 0 0 0 0 0 0 0 0 0 0 0 0)" ∷ [])

abbrev pub nested_once_too_deep_written : List ℕ
nested_once_too_deep_written = lines (codes "Refused: TooNested" ∷ codes "; 1 commands, 1 calls, 1 errors" ∷ [])

pub record NestedOnceTooDeep : Type 0 where
  pub is_written : output ([]) nested_once_too_deep_input ≡ record { bytes = nested_once_too_deep_written; status = Errors }

-- stobj functions
abbrev pub stobj_functions_input : List ℕ
stobj_functions_input = lines (codes "(defconst *n* 3)" ∷ codes "(defstobj st (a :type (array (integer 0 9) (*n*)) :initially 1 :resizable t) (h :type (hash-table eql)) (s))" ∷ codes "(a-length st)" ∷ codes "(resize-a 16777217 st)" ∷ codes "(resize-a -1 st)" ∷ codes "(ai 3 st)" ∷ codes "(update-ai 2 10 st)" ∷ codes "(update-ai 2 9 st)" ∷ codes "(h-put \"k\" 1 st)" ∷ codes "(h-put 'k 1 st)" ∷ codes "(h-put 'k 2 st)" ∷ codes "(h-get? 'k st)" ∷ codes "(h-get? 'l st)" ∷ codes "(h-boundp 'k st)" ∷ codes "(h-count st)" ∷ codes "(h-rem 'k st)" ∷ codes "(h-put 7 '(a b) st)" ∷ codes "(stp st)" ∷ codes "(ap '(1 2))" ∷ codes "(ap '(1 10))" ∷ codes "(hp 5)" ∷ codes "(create-st)" ∷ codes "(update-s (create-st) st)" ∷ codes "(:show st)" ∷ codes "(h-clear st)" ∷ codes "(:show st)" ∷ codes "(defstobj fixed (f :type (array t (2))))" ∷ codes "(resize-f 2 fixed)" ∷ codes "(defstobj s3 (q) :renaming ((q getq) (update-q setq) (qp q-okp) (other none)))" ∷ codes "(getq s3)" ∷ codes "(setq 5 s3)" ∷ codes "(getq st)" ∷ codes "(q s3)" ∷ codes "(:show s3)" ∷ [])

abbrev pub stobj_functions_written : List ℕ
stobj_functions_written = lines (codes "*N*" ∷ codes "ST" ∷ codes "3" ∷ codes "Guard violation: (RESIZE-A 16777217 <st>)" ∷ codes "Guard violation: (RESIZE-A -1 <st>)" ∷ codes "Guard violation: (AI 3 <st>)" ∷ codes "Guard violation: (UPDATE-AI 2 10 <st>)" ∷ codes "<st>" ∷ codes "Guard violation: (H-PUT \"k\" 1 <st>)" ∷ codes "<st>" ∷ codes "<st>" ∷ codes "(2 T)" ∷ codes "(NIL NIL)" ∷ codes "T" ∷ codes "1" ∷ codes "<st>" ∷ codes "<st>" ∷ codes "T" ∷ codes "T" ∷ codes "NIL" ∷ codes "T" ∷ codes "Refused: S12 at ()" ∷ codes "Refused: S8 at (0)" ∷ codes "((1 1 9) ((7 A B)) NIL)" ∷ codes "<st>" ∷ codes "((1 1 9) NIL NIL)" ∷ codes "FIXED" ∷ codes "Guard violation: (RESIZE-F 2 <fixed>)" ∷ codes "S3" ∷ codes "NIL" ∷ codes "<s3>" ∷ codes "Refused: S1 at (0)" ∷ codes "Refused: UnknownFunction Q" ∷ codes "(5)" ∷ codes "; 34 commands, 23 calls, 10 errors" ∷ [])

pub record StobjFunctions : Type 0 where
  pub is_written : output ([]) stobj_functions_input ≡ record { bytes = stobj_functions_written; status = Errors }

-- stobj refusals
abbrev pub stobj_refusals_input : List ℕ
stobj_refusals_input = lines (codes "(defstobj 5 a)" ∷ codes "(defstobj car a)" ∷ codes "(defstobj st nil)" ∷ codes "(defstobj st (:a))" ∷ codes "(defstobj st a :renaming ((a car)))" ∷ codes "(defstobj car (a :type foo))" ∷ codes "(defstobj st (a :type foo))" ∷ codes "(defstobj st (a :type (satisfies natp)))" ∷ codes "(defstobj st (a :type (array integer (16777217))))" ∷ codes "(defstobj st (a :type (array integer 5)))" ∷ codes "(defstobj st (a :type (array integer (*n*))))" ∷ codes "(defstobj st (a :type (array foo (5))))" ∷ codes "(defstobj st (a :resizable t))" ∷ codes "(defstobj st (h :type (hash-table equalp)))" ∷ codes "(defstobj st (h :type (hash-table)))" ∷ codes "(defstobj st (h :type (hash-table eq) :resizable t))" ∷ codes "(defstobj st (a :type integer) (b :type foo))" ∷ codes "(defstobj st (a :type integer))" ∷ codes "(defstobj st (a :type symbol :initially 'a))" ∷ codes "(defstobj st (h :type (hash-table eq) :initially nil))" ∷ codes "(defstobj st (a :type (array symbol (2)) :initially 5))" ∷ codes "(defstobj natp (a :type integer))" ∷ codes "(defstobj natp a)" ∷ codes "(defstobj st (a :type (or integer null)) (b :type (array bit (2)) :initially 1 :resizable nil) (c :type (hash-table equal 100)))" ∷ codes "(:show st)" ∷ codes "(defstobj st b)" ∷ codes "(defstobj s2 a)" ∷ codes "(defstobj s2 x x)" ∷ codes "(defstobj s2 s2)" ∷ [])

abbrev pub stobj_refusals_written : List ℕ
stobj_refusals_written = lines (codes "Refused: BadName 5" ∷ codes "Refused: BadName CAR" ∷ codes "Refused: BadName NIL" ∷ codes "Refused: BadName :A" ∷ codes "Refused: BadName CAR" ∷ codes "Refused: BadName CAR" ∷ codes "Refused: BadType A" ∷ codes "Refused: BadType A" ∷ codes "Refused: BadType A" ∷ codes "Refused: BadType A" ∷ codes "Refused: BadType A" ∷ codes "Refused: BadType A" ∷ codes "Refused: BadType A" ∷ codes "Refused: BadType H" ∷ codes "Refused: BadType H" ∷ codes "Refused: BadType H" ∷ codes "Refused: BadType B" ∷ codes "Refused: BadInitial A" ∷ codes "Refused: BadInitial A" ∷ codes "Refused: BadInitial H" ∷ codes "Refused: BadInitial A" ∷ codes "Refused: BadInitial A" ∷ codes "Refused: NameInUse NATP" ∷ codes "ST" ∷ codes "(NIL (1 1) NIL)" ∷ codes "Refused: NameInUse ST" ∷ codes "Refused: NameInUse AP" ∷ codes "Refused: NameInUse XP" ∷ codes "Refused: NameInUse S2" ∷ codes "; 29 commands, 0 calls, 27 errors" ∷ [])

pub record StobjRefusals : Type 0 where
  pub is_written : output ([]) stobj_refusals_input ≡ record { bytes = stobj_refusals_written; status = Errors }

-- stobj shapes
abbrev pub stobj_shapes_input : List ℕ
stobj_shapes_input = lines (codes "(defstobj)" ∷ codes "(defstobj st . 5)" ∷ codes "(defstobj st 5)" ∷ codes "(defstobj st (5))" ∷ codes "(defstobj st (a :foo 1))" ∷ codes "(defstobj st (a :type))" ∷ codes "(defstobj st (a :type integer :type integer))" ∷ codes "(defstobj st (a :resizable 5))" ∷ codes "(defstobj st a :foo 1)" ∷ codes "(defstobj st :foo)" ∷ codes "(defstobj st a :inline)" ∷ codes "(defstobj st :inline t a)" ∷ codes "(defstobj st a :inline t :inline t)" ∷ codes "(defstobj st a :non-executable t)" ∷ codes "(defstobj st a :congruent-to nope)" ∷ codes "(defstobj st a :renaming (a b))" ∷ codes "(defstobj st a :renaming ((a)))" ∷ codes "(defstobj st a :renaming ((a 5)))" ∷ codes "(defstobj st a :inline t :non-memoizable t :non-executable nil :renaming nil)" ∷ codes "(defstobj empty)" ∷ codes "(:show empty)" ∷ [])

abbrev pub stobj_shapes_written : List ℕ
stobj_shapes_written = lines (codes "Refused: BadShape DEFSTOBJ" ∷ codes "Refused: BadShape DEFSTOBJ" ∷ codes "Refused: BadShape DEFSTOBJ" ∷ codes "Refused: BadShape DEFSTOBJ" ∷ codes "Refused: BadShape DEFSTOBJ" ∷ codes "Refused: BadShape DEFSTOBJ" ∷ codes "Refused: BadShape DEFSTOBJ" ∷ codes "Refused: BadShape DEFSTOBJ" ∷ codes "Refused: BadShape DEFSTOBJ" ∷ codes "Refused: BadShape DEFSTOBJ" ∷ codes "Refused: BadShape DEFSTOBJ" ∷ codes "Refused: BadShape DEFSTOBJ" ∷ codes "Refused: BadShape DEFSTOBJ" ∷ codes "Refused: BadShape DEFSTOBJ" ∷ codes "Refused: BadShape DEFSTOBJ" ∷ codes "Refused: BadShape DEFSTOBJ" ∷ codes "Refused: BadShape DEFSTOBJ" ∷ codes "Refused: BadShape DEFSTOBJ" ∷ codes "ST" ∷ codes "EMPTY" ∷ codes "NIL" ∷ codes "; 21 commands, 0 calls, 18 errors" ∷ [])

pub record StobjShapes : Type 0 where
  pub is_written : output ([]) stobj_shapes_input ≡ record { bytes = stobj_shapes_written; status = Errors }

-- child at a stop
abbrev pub child_at_a_stop_input : List ℕ
child_at_a_stop_input = lines (codes "(defstobj kid (val :type integer :initially 0))" ∷ codes "(defstobj kid2 (val2 :type integer :initially 0) :congruent-to kid)" ∷ codes "(defstobj par (k :type (array kid (3))))" ∷ codes "(defun half (par) (declare (xargs :stobjs par)) (stobj-let ((kid (ki 0 par))) (kid) (let ((kid (update-val 4 kid))) (update-val 'x kid)) par))" ∷ codes "(half par)" ∷ codes "(:show par)" ∷ [])

abbrev pub child_at_a_stop_written : List ℕ
child_at_a_stop_written = lines (codes "KID" ∷ codes "KID2" ∷ codes "PAR" ∷ codes "HALF" ∷ codes "Guard violation: (UPDATE-VAL X <kid>)" ∷ codes "(((4) (0) (0)))" ∷ codes "; 6 commands, 4 calls, 1 errors" ∷ [])

pub record ChildAtAStop : Type 0 where
  pub is_written : output ([]) child_at_a_stop_input ≡ record { bytes = child_at_a_stop_written; status = Errors }

-- child bound twice
abbrev pub child_bound_twice_input : List ℕ
child_bound_twice_input = lines (codes "(defstobj kid (val :type integer :initially 0))" ∷ codes "(defstobj kid2 (val2 :type integer :initially 0) :congruent-to kid)" ∷ codes "(defstobj par (k :type (array kid (3))))" ∷ codes "(defun two (i j par) (declare (xargs :stobjs par :guard (and (natp i) (< i 3) (natp j) (< j 3)))) (stobj-let ((kid (ki i par)) (kid2 (ki j par))) (kid kid2) (let ((kid (update-val 1 kid))) (let ((kid2 (update-val 2 kid2))) (mv kid kid2))) par))" ∷ codes "(two 0 1 par)" ∷ codes "(two 2 2 par)" ∷ codes "(:show par)" ∷ codes "(defun bad (par) (declare (xargs :stobjs par)) (stobj-let ((kid (ki 1 par)) (kid2 (ki 1 par))) (kid) kid par))" ∷ codes "(defun peek (i par) (declare (xargs :stobjs par :guard (and (natp i) (< i 3)))) (stobj-let ((kid (ki i par))) (v) (val kid) v))" ∷ codes "(peek 1 par)" ∷ [])

abbrev pub child_bound_twice_written : List ℕ
child_bound_twice_written = lines (codes "KID" ∷ codes "KID2" ∷ codes "PAR" ∷ codes "TWO" ∷ codes "<par>" ∷ codes "Guard violation: (STOBJ-LET 2 2)" ∷ codes "(((1) (2) (0)))" ∷ codes "Refused: S13 at (0 1)" ∷ codes "PEEK" ∷ codes "2" ∷ codes "; 10 commands, 25 calls, 2 errors" ∷ [])

pub record ChildBoundTwice : Type 0 where
  pub is_written : output ([]) child_bound_twice_input ≡ record { bytes = child_bound_twice_written; status = Errors }

-- children of one array
abbrev pub children_of_one_array_input : List ℕ
children_of_one_array_input = lines (codes "(defstobj kid (val :type integer :initially 0))" ∷ codes "(defstobj kid2 (val2 :type integer :initially 0) :congruent-to kid)" ∷ codes "(defstobj par (k :type (array kid (3))))" ∷ codes "(defun two (i j par) (declare (xargs :stobjs par :guard (and (natp i) (< i 3) (natp j) (< j 3)))) (stobj-let ((kid (ki i par)) (kid2 (ki j par))) (kid kid2) (let ((kid (update-val 1 kid))) (let ((kid2 (update-val 2 kid2))) (mv kid kid2))) par))" ∷ codes "(two 0 1 par)" ∷ codes "(two 2 2 par)" ∷ codes "(:show par)" ∷ [])

abbrev pub children_of_one_array_written : List ℕ
children_of_one_array_written = lines (codes "KID" ∷ codes "KID2" ∷ codes "PAR" ∷ codes "TWO" ∷ codes "<par>" ∷ codes "Guard violation: (STOBJ-LET 2 2)" ∷ codes "(((1) (2) (0)))" ∷ codes "; 7 commands, 19 calls, 1 errors" ∷ [])

pub record ChildrenOfOneArray : Type 0 where
  pub is_written : output ([]) children_of_one_array_input ≡ record { bytes = children_of_one_array_written; status = Errors }

-- congruent parents
abbrev pub congruent_parents_input : List ℕ
congruent_parents_input = lines (codes "(defstobj kid (val :type integer :initially 0))" ∷ codes "(defstobj kid2 (val2 :type integer :initially 0) :congruent-to kid)" ∷ codes "(defstobj par (k :type (array kid (3))))" ∷ codes "(defstobj par2 (k2 :type (array kid (3))) :congruent-to par)" ∷ codes "(defun twin (par) (declare (xargs :stobjs par)) (stobj-let ((kid (ki 0 par)) (kid2 (k2i 0 par))) (kid) kid par))" ∷ [])

abbrev pub congruent_parents_written : List ℕ
congruent_parents_written = lines (codes "KID" ∷ codes "KID2" ∷ codes "PAR" ∷ codes "PAR2" ∷ codes "Refused: S13 at (0 1)" ∷ codes "; 5 commands, 0 calls, 1 errors" ∷ [])

pub record CongruentParents : Type 0 where
  pub is_written : output ([]) congruent_parents_input ≡ record { bytes = congruent_parents_written; status = Errors }

-- congruent stobjs
abbrev pub congruent_stobjs_input : List ℕ
congruent_stobjs_input = lines (codes "(defstobj st (a :type integer :initially 1))" ∷ codes "(defstobj st2 (b :type integer :initially 1) :congruent-to st)" ∷ codes "(update-a 5 st2)" ∷ codes "(defun both (st st2) (declare (xargs :stobjs (st st2))) (let ((st (update-a 7 st))) (let ((st2 (update-b 8 st2))) (mv st st2))))" ∷ codes "(both st2 st)" ∷ codes "(:show st)" ∷ codes "(:show st2)" ∷ [])

abbrev pub congruent_stobjs_written : List ℕ
congruent_stobjs_written = lines (codes "ST" ∷ codes "ST2" ∷ codes "<st2>" ∷ codes "BOTH" ∷ codes "(<st2> <st>)" ∷ codes "(8)" ∷ codes "(7)" ∷ codes "; 7 commands, 4 calls, 0 errors" ∷ [])

pub record CongruentStobjs : Type 0 where
  pub is_written : output ([]) congruent_stobjs_input ≡ record { bytes = congruent_stobjs_written; status = Done }

-- hash field
abbrev pub hash_field_input : List ℕ
hash_field_input = lines (codes "(defstobj st (h :type (hash-table eql)))" ∷ codes "(h-put 'k 1 st)" ∷ codes "(h-put 'k 2 st)" ∷ codes "(h-get 'k st)" ∷ codes "(h-rem 'k st)" ∷ codes "(h-get 'k st)" ∷ codes "(h-count st)" ∷ [])

abbrev pub hash_field_written : List ℕ
hash_field_written = lines (codes "ST" ∷ codes "<st>" ∷ codes "<st>" ∷ codes "2" ∷ codes "<st>" ∷ codes "NIL" ∷ codes "0" ∷ codes "; 7 commands, 6 calls, 0 errors" ∷ [])

pub record HashField : Type 0 where
  pub is_written : output ([]) hash_field_input ≡ record { bytes = hash_field_written; status = Done }

-- list at a stop
abbrev pub list_at_a_stop_input : List ℕ
list_at_a_stop_input = lines (codes "(defstobj st (a :type integer :initially 0) (b :type integer :initially 0))" ∷ codes "(defun w (st) (declare (xargs :stobjs st)) (let ((st (update-a 1 st))) (update-b 'x st)))" ∷ codes "(w st)" ∷ codes "(a st)" ∷ [])

abbrev pub list_at_a_stop_written : List ℕ
list_at_a_stop_written = lines (codes "ST" ∷ codes "W" ∷ codes "Guard violation: (UPDATE-B X <st>)" ∷ codes "1" ∷ codes "; 4 commands, 4 calls, 1 errors" ∷ [])

pub record ListAtAStop : Type 0 where
  pub is_written : output ([]) list_at_a_stop_input ≡ record { bytes = list_at_a_stop_written; status = Errors }

-- local stobj
abbrev pub local_stobj_input : List ℕ
local_stobj_input = lines (codes "(defstobj st (pc :type integer :initially 0))" ∷ codes "(defun f (n) (declare (xargs :guard (integerp n))) (with-local-stobj st (mv-let (x st) (let ((st (update-pc n st))) (mv (pc st) st)) x)))" ∷ codes "(f 9)" ∷ codes "(pc st)" ∷ [])

abbrev pub local_stobj_written : List ℕ
local_stobj_written = lines (codes "ST" ∷ codes "F" ∷ codes "9" ∷ codes "0" ∷ codes "; 4 commands, 6 calls, 0 errors" ∷ [])

pub record LocalStobj : Type 0 where
  pub is_written : output ([]) local_stobj_input ≡ record { bytes = local_stobj_written; status = Done }

-- resizing
abbrev pub resizing_input : List ℕ
resizing_input = lines (codes "(defstobj st (a :type (array (unsigned-byte 8) (0)) :initially 7 :resizable t))" ∷ codes "(resize-a 3 st)" ∷ codes "(update-ai 2 9 st)" ∷ codes "(resize-a 1 st)" ∷ codes "(resize-a 3 st)" ∷ codes "(ai 2 st)" ∷ [])

abbrev pub resizing_written : List ℕ
resizing_written = lines (codes "ST" ∷ codes "<st>" ∷ codes "<st>" ∷ codes "<st>" ∷ codes "<st>" ∷ codes "7" ∷ codes "; 6 commands, 5 calls, 0 errors" ∷ [])

pub record Resizing : Type 0 where
  pub is_written : output ([]) resizing_input ≡ record { bytes = resizing_written; status = Done }
