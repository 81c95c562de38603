-- What is recorded, batch by batch, file by file and tenant by tenant.
use Rattle.std.proofs.Common.{◌≡◌, ◌∙◌, ◌≤◌, ◌<◌, ◌+◌, ◌++◌, ℕ, List, [], ◌∷◌, length, drop, get_or, drop-cons, add-one, map, Option, Some, None, refl, sym, ap, subst, arith}
use Rattle.std.proofs.Common.{◌&&◌, Bool, true, false, cond, append_assoc, if◌then◌else◌, unwrap_or}
use Rattle.std.specs.Str.{bytes_eq}
use Rattle.std.specs.FinMap.{get, keys}
use Rattle.kb_store.specs.Disk.{Disk, Files, Table, bytes_of}
use Rattle.kb_segment.specs.Header.{Header, header_in}
use Rattle.kb_survey.specs.Listed.{is_in}
use Rattle.kb_batch.specs.Batch.{front}
use Rattle.kb_batch.specs.BatchLaws.{batch_long, front_is}
use Rattle.kb_survey.specs.Whole.{batches_among}
use Rattle.kb_survey.proofs.Found.{found_none, found_some}
use Rattle.kb_topics.specs.declared.command.Command.{Command}
use Rattle.kb_topics.specs.declared.command.MoveStart.{MoveStart}
use Rattle.kb_replay.specs.Command.{RecordsCommand}
use Rattle.kb_start.specs.Starts.{batches_at, batches_of_files, catalogs_of, header_at, is_any_catalogs, is_catalogs, with_start}
use Rattle.kb_start.specs.Starts.{AreRecorded, RecordsEach}

long : (s b : List ℕ) → front s ≡ Some b → 1 ≤ length b
long s b e = omega (arith, batch_long b (front_is s b e).is)

-- where no batch stands in front
pub recorded_none : (s : List ℕ) (before after : List MoveStart) → 0 < length s → front s ≡ None → RecordsEach (batches_among (drop 1 s)) before after
    → RecordsEach (batches_among s) before after
recorded_none s before after l e h = subst (λ bs. RecordsEach bs before after) (sym (found_none long s l e)) h

-- and where one does
pub recorded_some : (s b : List ℕ) (command : Option Command) (before after : List MoveStart) → 0 < length s → front s ≡ Some b → RecordsCommand b command
    → RecordsEach (batches_among (drop (length b) s)) (with_start before command) after → RecordsEach (batches_among s) before after
recorded_some s b command before after l e tells h = subst (λ bs. RecordsEach bs before after) (sym (found_some long s b l e)) (command, tells, h)

-- some batches and then others
pub recorded_both : (bs cs : List (List ℕ)) (before mid after : List MoveStart) → RecordsEach bs before mid → RecordsEach cs mid after
    → RecordsEach (bs ++ cs) before after
recorded_both [] cs before mid after h k = subst (λ x. RecordsEach cs x after) h k
recorded_both (b ∷ bs) cs before mid after h k = (h.0, h.1, recorded_both bs cs (with_start before h.0) mid after h.2 k)

pushed : {A B : Type 0} (f : A → B) (xs : List A) (x : A) (more : List B) → map f (xs ++ x ∷ []) ++ more ≡ map f xs ++ f x ∷ more
pushed f [] x more = refl
pushed f (y ∷ ys) x more = ap (λ t. f y ∷ t) (pushed f ys x more)

-- those of one more tenant
pub recorded_next : {A : Type 0} (d : Disk) (f : A → List MoveStart) (tenants : List (List ℕ)) (known : List A) (of : A) (more : List (List MoveStart))
    → AreRecorded d tenants (map f known ++ f of ∷ more) → AreRecorded d tenants (map f (known ++ of ∷ []) ++ more)
recorded_next d f tenants known of more h = subst (λ starts. AreRecorded d tenants starts) (sym (pushed f known of more)) h

-- ---- on a disk of the same files

same_at : (d e : Disk) (tenant : List ℕ) (file : ℕ) → e.table ≡ d.table → e.files ≡ d.files → batches_at e tenant file ≡ batches_at d tenant file
same_at d e tenant file t f = ap (λ table. of_both table e.files) t ∙ ap (of_both d.table) f
  where
    of_both : Table → Files → List (List ℕ)
    of_both table files =
        let bytes = unwrap_or (get files file) [] in
        if is_catalogs tenant (if is_in (keys table) file then header_in bytes else None)
        then batches_among (if is_in (keys table) file then bytes else []) else []

same_of : (d e : Disk) (tenant : List ℕ) (files : List ℕ) → e.table ≡ d.table → e.files ≡ d.files → batches_of_files e tenant files ≡ batches_of_files d tenant files
same_of d e tenant [] t f = refl
same_of d e tenant (x ∷ xs) t f = ap (λ bs. bs ++ batches_of_files e tenant xs) (same_at d e tenant x t f) ∙ ap (λ bs. batches_at d tenant x ++ bs) (same_of d e tenant xs t f)

-- of one more file
pub recorded_file : (d e : Disk) (tenant files : List ℕ) (i none : ℕ) (before mid after : List MoveStart)
    → i < length files → e.table ≡ d.table → e.files ≡ d.files → RecordsEach (batches_at e tenant (get_or files i none)) before mid
    → RecordsEach (batches_of_files d tenant (drop (i + 1) files)) mid after → RecordsEach (batches_of_files d tenant (drop i files)) before after
recorded_file d e tenant files i none before mid after in_range t same h k =
    let file = get_or files i none in
    let rest = drop (i + 1) files in
    let is : drop i files ≡ file ∷ rest = rw (add-one, drop-cons files i none in_range) in
    subst (λ xs. RecordsEach (batches_of_files d tenant xs) before after) (sym is)
    (recorded_both (batches_at d tenant file) (batches_of_files d tenant rest) before mid after
    (subst (λ bs. RecordsEach bs before mid) (same_at d e tenant file t same) h) k)

-- ---- of all files, those of catalogs

pub same_header : (d e : Disk) (file : ℕ) → e.table ≡ d.table → e.files ≡ d.files → header_at e file ≡ header_at d file
same_header d e file t f = ap (λ table. of_both table e.files) t ∙ ap (of_both d.table) f
  where
    of_both : Table → Files → Option Header
    of_both table files = if is_in (keys table) file then header_in (unwrap_or (get files file) []) else None

same_catalogs : (d e : Disk) (files : List ℕ) → e.table ≡ d.table → e.files ≡ d.files → catalogs_of e files ≡ catalogs_of d files
same_catalogs d e [] t f = refl
same_catalogs d e (x ∷ xs) t f =
    ap (λ o. cond (is_any_catalogs o) (x ∷ catalogs_of e xs) (catalogs_of e xs)) (same_header d e x t f)
    ∙ ap (λ cs. cond (is_any_catalogs (header_at d x)) (x ∷ cs) cs) (same_catalogs d e xs t f)

-- with one more file
pub catalogs_next : (d e : Disk) (files : List ℕ) (i other : ℕ) (before now all : List ℕ)
    → i < length files → e.table ≡ d.table → e.files ≡ d.files
    → now ≡ (if is_any_catalogs (header_at e (get_or files i other)) then before ++ get_or files i other ∷ [] else before)
    → before ++ catalogs_of d (drop i files) ≡ all → now ++ catalogs_of d (drop (i + 1) files) ≡ all
catalogs_next d e files i other before now all in_range t f is told =
    let file = get_or files i other in
    let rest = catalogs_of d (drop (i + 1) files) in
    let next : drop i files ≡ file ∷ drop (i + 1) files = rw (add-one, drop-cons files i other in_range) in
    ap (λ cs. cs ++ rest) is
    ∙ ap (λ o. (if is_any_catalogs o then before ++ file ∷ [] else before) ++ rest) (same_header d e file t f)
    ∙ moved (is_any_catalogs (header_at d file)) ∙ ap (λ fs. before ++ catalogs_of d fs) (sym next) ∙ told
  where
    moved : (b : Bool) → (if b then before ++ get_or files i other ∷ [] else before) ++ catalogs_of d (drop (i + 1) files)
        ≡ before ++ cond b (get_or files i other ∷ catalogs_of d (drop (i + 1) files)) (catalogs_of d (drop (i + 1) files))
    moved true = append_assoc before (get_or files i other ∷ []) (catalogs_of d (drop (i + 1) files))
    moved false = refl

-- no other file has a batch of the tenant's
none_else : (tenant : List ℕ) (o : Option Header) (bs : List (List ℕ)) → is_any_catalogs o ≡ false → (if is_catalogs tenant o then bs else []) ≡ []
none_else tenant None bs e = refl
none_else tenant (Some h) bs e =
    ap (λ b. if bytes_eq h.tenant tenant && b then bs else []) e ∙ neither (bytes_eq h.tenant tenant)
  where
    neither : (b : Bool) → (if b && false then bs else []) ≡ []
    neither true = refl
    neither false = refl

each_is : (d : Disk) (tenant files : List ℕ) → batches_of_files d tenant (catalogs_of d files) ≡ batches_of_files d tenant files
each_is d tenant [] = refl
each_is d tenant (x ∷ xs) = each (is_any_catalogs (header_at d x)) refl (each_is d tenant xs)
  where
    each : (b : Bool) → is_any_catalogs (header_at d x) ≡ b → batches_of_files d tenant (catalogs_of d xs) ≡ batches_of_files d tenant xs
        → batches_of_files d tenant (cond b (x ∷ catalogs_of d xs) (catalogs_of d xs)) ≡ batches_at d tenant x ++ batches_of_files d tenant xs
    each true e h = ap (λ bs. batches_at d tenant x ++ bs) h
    each false e h =
        h ∙ ap (λ bs. bs ++ batches_of_files d tenant xs)
        (sym (none_else tenant (header_at d x) (batches_among (if is_in (keys d.table) x then bytes_of d x else [])) e))

each_of : (d e : Disk) (tenant listed cs : List ℕ) → e.table ≡ d.table → e.files ≡ d.files → listed ≡ keys e.table
    → cs ≡ catalogs_of d listed → batches_of_files e tenant cs ≡ batches_of_files e tenant (keys e.table)
each_of d e tenant listed cs t f is found =
    ap (batches_of_files e tenant) (found ∙ sym (same_catalogs d e listed t f)) ∙ each_is e tenant listed ∙ ap (batches_of_files e tenant) is

-- and of one more tenant, on the disk as it is now
pub recorded_tenant : {A B : Type 0} (d e : Disk) (name : A → List ℕ) (f : B → List MoveStart) (tenants : List A) (i : ℕ) (none : A)
    (known next : List B) (of : B) → i < length tenants → e.table ≡ d.table → e.files ≡ d.files
    → RecordsEach (batches_of_files e (name (get_or tenants i none)) (keys e.table)) [] (f of) → next ≡ known ++ of ∷ []
    → ((more : List (List MoveStart)) → AreRecorded d (map name (drop i tenants)) more → AreRecorded d (map name tenants) (map f known ++ more))
    → (more : List (List MoveStart)) → AreRecorded d (map name (drop (i + 1) tenants)) more → AreRecorded d (map name tenants) (map f next ++ more)
recorded_tenant d e name f tenants i none known next of in_range t files h pushed-is told more k =
    let tenant = get_or tenants i none in
    let rest = drop (i + 1) tenants in
    let is : drop i tenants ≡ tenant ∷ rest = rw (add-one, drop-cons tenants i none in_range) in
    let here : RecordsEach (batches_of_files d (name tenant) (keys d.table)) [] (f of) =
    subst (λ bs. RecordsEach bs [] (f of))
    (ap (λ table. batches_of_files e (name tenant) (keys table)) t ∙ same_of d e (name tenant) (keys d.table) t files) h in
    let both : AreRecorded d (map name (drop i tenants)) (f of ∷ more) = subst (λ xs. AreRecorded d (map name xs) (f of ∷ more)) (sym is) (here, k) in
    subst (λ all. AreRecorded d (map name tenants) (map f all ++ more)) (sym pushed-is)
    (recorded_next d f (map name tenants) known of more (told (f of ∷ more) both))

-- the same by the files of all catalogs
pub recorded_among : {A B : Type 0} (d e : Disk) (name : A → List ℕ) (f : B → List MoveStart) (listed cs : List ℕ)
    (tenants : List A) (i : ℕ) (none : A) (known next : List B) (of : B) → listed ≡ keys e.table → cs ≡ catalogs_of d listed
    → i < length tenants → e.table ≡ d.table → e.files ≡ d.files
    → RecordsEach (batches_of_files e (name (get_or tenants i none)) cs) [] (f of) → next ≡ known ++ of ∷ []
    → ((more : List (List MoveStart)) → AreRecorded d (map name (drop i tenants)) more → AreRecorded d (map name tenants) (map f known ++ more))
    → (more : List (List MoveStart)) → AreRecorded d (map name (drop (i + 1) tenants)) more → AreRecorded d (map name tenants) (map f next ++ more)
recorded_among d e name f listed cs tenants i none known next of is found in_range t files h pushed-is told more k =
    recorded_tenant d e name f tenants i none known next of in_range t files
    (subst (λ bs. RecordsEach bs [] (f of)) (each_of d e (name (get_or tenants i none)) listed cs t files is found) h) pushed-is told more k

-- all of it on a disk of the same files
pub same_recorded : (d e : Disk) (tenants : List (List ℕ)) (starts : List (List MoveStart)) → e.table ≡ d.table → e.files ≡ d.files
    → AreRecorded e tenants starts → AreRecorded d tenants starts
same_recorded d e [] [] t f h = h
same_recorded d e [] (of ∷ starts) t f h = h
same_recorded d e (tenant ∷ tenants) [] t f h = h
same_recorded d e (tenant ∷ tenants) (of ∷ starts) t f h =
    let same : batches_of_files e tenant (keys e.table) ≡ batches_of_files d tenant (keys d.table) =
    ap (λ table. batches_of_files e tenant (keys table)) t ∙ same_of d e tenant (keys d.table) t f in
    (subst (λ bs. RecordsEach bs [] of) same h.0, same_recorded d e tenants starts t f h.1)

pub found_again : (d e : Disk) (listed cs : List ℕ) → e.table ≡ d.table → e.files ≡ d.files → cs ≡ catalogs_of d listed → cs ≡ catalogs_of e listed
found_again d e listed cs t f is = is ∙ sym (same_catalogs d e listed t f)
