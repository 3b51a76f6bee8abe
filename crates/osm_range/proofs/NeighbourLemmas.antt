-- Ranges one after the other have the changes of both together, since a number's files hold one list of changes.
use Rattle.std.proofs.Common.{◌≡◌, ℕ, ◌+◌, List, [], ◌∷◌, ◌++◌, length, refl, ap, sym, subst, ◌∙◌, arith, Some, None, Option}
use Rattle.std.proofs.lemmas.Grind.{flat_map-append}
use Rattle.std.proofs.lemmas.List.{length-append}
use Rattle.osm_o5c.proofs.FrontLemmas as o5c_file
use Rattle.osm_opl.proofs.FileLaws as opl_file
use Rattle.osm_publisher.specs.Published.{PublishedValue}
use Rattle.osm_state.specs.declared.paths.Suffix.TheVariants.{O5c, Opl}
use Rattle.osm_store.specs.Files.{Files}
use Rattle.osm_runs.specs.Folder.{IsFile, IsThere}
use Rattle.osm_runs.specs.Following.{AreChanges}
use Rattle.osm_runs.specs.Names.{file_name_of}
use Rattle.osm_range.specs.Ranges.{AreRead, changes_in}
use Rattle.osm_range.proofs.TallyLawLemmas.{add_up}
use Rattle.osm_range.specs.TallyLaws.{RangesAddUp}
use Rattle.osm_range.specs.Tally.{AreRows}

same_opl : (told : Option (List ℕ)) (p q : PublishedValue) → IsThere told (IsFile Opl p) → IsThere told (IsFile Opl q) → p.changes ≡ q.changes
same_opl None p q a b = absurd a
same_opl (Some bytes) p q a b = opl_file.one_batch bytes p.changes q.changes a.1 b.1

same_changes : (o5c opl : Option (List ℕ)) (p q : PublishedValue) → AreChanges o5c opl p → AreChanges o5c opl q → p.changes ≡ q.changes
same_changes None opl p q a b = same_opl opl p q a b
same_changes (Some bytes) opl p q a b = o5c_file.one_batch bytes p.changes q.changes a.1 b.1

-- the file of a number has the changes of a sequence
abbrev HasChanges : Files → List ℕ → ℕ → PublishedValue → Type 0
HasChanges files dir number p =
    AreChanges (files (file_name_of dir number O5c)) (files (file_name_of dir number Opl)) (record { number = number; changes = p.changes; time = p.time })

-- the files of the numbers from that one on have the changes of the sequences
abbrev HaveChanges : Files → List ℕ → ℕ → List PublishedValue → Type 0
HaveChanges files dir number [] = Unit {0}
HaveChanges files dir number (p ∷ ps) = HasChanges files dir number p × HaveChanges files dir (number + 1) ps

read_have : (files : Files) (dir : List ℕ) (before : Option ℕ) (number : ℕ) (ps : List PublishedValue)
    → AreRead (Unit {0}) files dir before number ps → HaveChanges files dir number ps
read_have files dir before number [] are = tt
read_have files dir before number (p ∷ ps) are = ((are.1.there tt).changes, read_have files dir (Some p.time) (number + 1) ps are.2)

joined_have : (files : Files) (dir : List ℕ) (number next : ℕ) (ps qs : List PublishedValue) → next ≡ number + length ps
    → HaveChanges files dir number ps → HaveChanges files dir next qs → HaveChanges files dir number (ps ++ qs)
joined_have files dir number next [] qs at have after =
    let same : next ≡ number = (let e : number + 0 ≡ number = omega arith in at ∙ e) in
    subst (λ n. HaveChanges files dir n qs) same after
joined_have files dir number next (p ∷ ps) qs at have after =
    let past : next ≡ number + 1 + length ps = (let e : number + length (p ∷ ps) ≡ number + 1 + length ps = omega arith in at ∙ e) in
    (have.0, joined_have files dir (number + 1) next ps qs past have.1 after)

one_list : (files : Files) (dir : List ℕ) (number : ℕ) (ps qs : List PublishedValue) → length ps ≡ length qs
    → HaveChanges files dir number ps → HaveChanges files dir number qs → changes_in ps ≡ changes_in qs
one_list files dir number [] [] long a b = refl
one_list files dir number [] (q ∷ qs) long a b = absurd (omega (arith, long))
one_list files dir number (p ∷ ps) [] long a b = absurd (omega (arith, long))
one_list files dir number (p ∷ ps) (q ∷ qs) long a b =
    let first : p.changes ≡ q.changes = same_changes _ _ _ _ a.0 b.0 in
    let rest : changes_in ps ≡ changes_in qs = one_list files dir (number + 1) ps qs (omega (arith, long)) a.1 b.1 in
    ap (λ cs. cs ++ changes_in ps) first ∙ ap (λ cs. q.changes ++ cs) rest

pub ranges_add_up : RangesAddUp
ranges_add_up files dir one other both layout columns t u v r s w a b c begins after ends k =
    let xs = a.sequences in
    let ys = b.sequences in
    let zs = c.sequences in
    let first : r.number + 1 ≡ one.from + length xs = a.read.number in
    let second : s.number + 1 ≡ other.from + length ys = b.read.number in
    let whole : w.number + 1 ≡ both.from + length zs = c.read.number in
    let joined : length (xs ++ ys) ≡ length xs + length ys = length-append xs ys in
    let long : length zs ≡ length (xs ++ ys) = omega (arith, first, second, whole, joined, begins, after, ends) in
    let next : other.from ≡ one.from + length xs = omega (arith, after, first) in
    let have : HaveChanges files dir one.from (xs ++ ys) =
    joined_have files dir one.from other.from xs ys next (read_have files dir None one.from xs a.read.are)
    (read_have files dir None other.from ys b.read.are) in
    let all : HaveChanges files dir one.from zs = subst (λ n. HaveChanges files dir n zs) (sym begins) (read_have files dir None both.from zs c.read.are) in
    let changes : changes_in zs ≡ changes_in xs ++ changes_in ys =
    one_list files dir one.from zs (xs ++ ys) long all have ∙ flat_map-append (λ (p : PublishedValue). p.changes) xs ys in
    add_up columns (changes_in xs) (changes_in ys) a.table.rows b.table.rows c.table.rows a.table.are b.table.are
    (subst (λ cs. AreRows columns cs c.table.rows) changes c.table.are) k
