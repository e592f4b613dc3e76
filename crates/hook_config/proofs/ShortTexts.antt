-- The texts of a configuration are no longer than a text may be: the definitions take no longer one, and no key is longer
-- than what is read.
use Rattle.std.proofs.Common.{◌≡◌, ℕ, ◌≤◌, Bool, true, false, cond, List, [], ◌∷◌, ◌++◌, length, leb, Option, Some, None, Result, Ok, Err, option_map, option_and_then, bytes_eq, refl, subst, arith}
use Rattle.std.specs.Prelude.{IfOk}
use Rattle.std.specs.List.{All, AllByRecursion, flat_map}
use Rattle.std.proofs.lemmas.Bool.{leb-true}
use Rattle.std.proofs.lemmas.List.Elements.{All-from_recursion}
use Rattle.builtin_hooks.specs.Search.{search_of}
use Rattle.yaml_lines.specs.Meaning.{Meaning, text, list, table, empty, Meanings, no_meanings, meaning, Members, no_members, member, nodes, rows_of_members}
use Rattle.yaml_profile.specs.Text.{meaning_of}
use Rattle.yaml_profile.specs.TextsWithin.{HasTextsWithin, ItemsHaveTextsWithin, RowsHaveTextsWithin}
use Rattle.yaml_profile.proofs.Holds.{Holds, map_to, then_any, then_to, either, if_true, weaker}
use Rattle.yaml_profile.proofs.TextsWithin.{texts_within, few_bytes}
use Rattle.hook_config.specs.CommandWords.{command_words_of}
use Rattle.hook_config.specs.Configuration.{configuration_of, configuration_of_meaning, configuration_of_rows}
use Rattle.hook_config.specs.Gives.{GivesConfiguration}
use Rattle.hook_config.specs.Hooks.{joined_lists, hook_alone, hooks_of_list, hooks_of_named, hooks_of_rows, hooks_of_repository, hooks_of_repositories, within_hook_limit}
use Rattle.hook_config.specs.HookTable.{unserved_of, hook_names_of, command_keys_of, selection_of, switches_of, reads_of, conditions_of, hook_of_groups, hook_with, hook_of_fields, hook_of}
use Rattle.hook_config.specs.Kinds.{text_of, each, texts_of_list, only_empty, empty_text_of, empty_texts_of, given, kind_or}
use Rattle.hook_config.specs.KnownKeys.{ConfigurationKey, at_key, is_key, file_word, local_word, hook_keys, repository_keys, top_keys}
use Rattle.hook_config.specs.KnownKeys as key
use Rattle.hook_config.specs.Languages.{grep_of, language_of}
use Rattle.hook_config.specs.Limits.{most_text_bytes, most_hooks, IsShort, AreTexts}
use Rattle.hook_config.specs.Patterns.{pattern_of_text, pattern_of, every_path, no_path}
use Rattle.hook_config.specs.Rows.{ConfigurationRow, value_of_key, table_of, list_of}
use Rattle.hook_config.specs.ShortTexts.{HasShortSearch, HookHasShortTexts, HasShortTexts}
use Rattle.hook_config.specs.UnknownKeys.{rows_in, items_in, unknown_key, unknown_of_hook, unknown_of_repository_row, unknown_of_repository, unknown_of_top_row, unknown_of_top}
use Rattle.hook_config.specs.declared.config_fault.ConfigFault.{ConfigFault}
use Rattle.hook_config.specs.declared.configuration.Config.{Config}
use Rattle.hook_config.specs.declared.configuration.Hook.{Hook}
use Rattle.hook_config.specs.declared.configuration.Language.{Language}
use Rattle.hook_config.specs.declared.configuration.Language.TheVariants.{Pygrep, System, Script}
use Rattle.hook_config.specs.declared.hook_parts.CommandKeys.{CommandKeys}
use Rattle.hook_config.specs.declared.hook_parts.Conditions.{Conditions}
use Rattle.hook_config.specs.declared.hook_parts.Names.{Names}
use Rattle.hook_config.specs.declared.hook_parts.Reads.{Reads}
use Rattle.hook_config.specs.declared.hook_parts.Selection.{Selection}
use Rattle.hook_config.specs.declared.hook_parts.Unserved.{Unserved}
use Rattle.hook_config.specs.declared.known_keys.KeyKind.{KeyKind}
use Rattle.hook_config.specs.declared.languages.LanguageName.{LanguageName}
use Rattle.hook_config.specs.declared.languages.LanguageName.TheVariants as name
use Rattle.hook_config.specs.declared.stage.Stages.{Stages}

-- ---- texts

short_text : (m : Meaning) → Holds IsShort (text_of m)
short_text (text content quoted) = if_true IsShort (leb (length content) most_text_bytes) content (λ e. leb-true (length content) most_text_bytes e)
short_text (list items) = tt
short_text (table content) = tt
short_text empty = tt

short_each : (items : List Meaning) → Holds (AllByRecursion IsShort) (each text_of items)
short_each [] = tt
short_each (item ∷ items) =
    then_to IsShort (AllByRecursion IsShort) _
    (λ first p. map_to (AllByRecursion IsShort) (AllByRecursion IsShort) _ (λ others q. (p, q)) (each text_of items) (short_each items)) (text_of item) (short_text item)

short_texts : (m : Meaning) → Holds AreTexts (texts_of_list m)
short_texts m =
    then_any AreTexts (each text_of) (λ items. weaker (AllByRecursion IsShort) AreTexts (λ ts h. All-from_recursion IsShort ts h) (each text_of items) (short_each items)) (list_of m)

pattern_short : (t : List ℕ) → IsShort t → Holds IsShort (pattern_of_text t)
unfolding pattern_of_text
pattern_short t h = if_true IsShort _ t (λ _. h)

short_pattern : (m : Meaning) → Holds IsShort (pattern_of m)
short_pattern m = then_to IsShort IsShort pattern_of_text pattern_short (text_of m) (short_text m)

nothing_short : IsShort []
nothing_short = omega arith

no_texts : AreTexts []
no_texts = All-from_recursion IsShort [] tt

every_path_short : IsShort every_path
every_path_short = omega arith

no_path_short : IsShort no_path
no_path_short = omega arith

file_short : AreTexts (file_word ∷ [])
file_short = All-from_recursion IsShort (file_word ∷ []) (omega arith, tt)

empty_short : {A : Type 0} (P : List A → Type 0) → P [] → (xs : List A) → Holds P (only_empty xs)
empty_short P h [] = h
empty_short P h (x ∷ xs) = tt

short_empty : (m : Meaning) → Holds IsShort (empty_text_of m)
short_empty m = then_any IsShort only_empty (empty_short IsShort nothing_short) (text_of m)

short_empties : (m : Meaning) → Holds AreTexts (empty_texts_of m)
short_empties m = then_any AreTexts only_empty (empty_short AreTexts no_texts) (texts_of_list m)

-- ---- values at keys

-- what holds of the values of a kind, and of what a key is where it isn't there, holds of what is read at the key
by_kind : {A : Type 0} (P : A → Type 0) (kind : Meaning → Option A) (absent : Option A) → ((m : Meaning) → Holds P (kind m)) → Holds P absent → (o : Option Meaning) → Holds P (kind_or kind absent o)
by_kind P kind absent h k None = k
by_kind P kind absent h k (Some m) = h m

at : {A : Type 0} (P : A → Type 0) (known : ConfigurationKey A) (rs : List ConfigurationRow) → ((m : Meaning) → Holds P (known.kind m)) → Holds P known.absent → Holds P (at_key known rs)
at P known rs h k = by_kind P known.kind known.absent h k (value_of_key known.word rs)

-- ---- hooks

search_short : (entry : List ℕ) (args : List (List ℕ)) → IsShort entry → Holds (λ search. IsShort search.text) (grep_of entry args)
unfolding grep_of
search_short entry args h = if_true (λ search. IsShort search.text) _ (search_of entry args) (λ _. h)

any_words : {A : Type 0} (f : A → Language) → ((x : A) → HasShortSearch (f x)) → (o : Option A) → Holds HasShortSearch (option_map f o)
any_words f h None = tt
any_words f h (Some x) = h x

language_short : (word : LanguageName) (entry : List ℕ) (args : List (List ℕ)) → IsShort entry → Holds HasShortSearch (language_of word entry args)
language_short name.Fail entry args h = tt
language_short name.Pygrep entry args h =
    map_to (λ search. IsShort search.text) HasShortSearch (λ search. Pygrep search) (λ search k. k) (grep_of entry args) (search_short entry args h)
language_short name.System entry args h = any_words (λ words. System words) (λ words. tt) (command_words_of entry args)
language_short name.Script entry args h = any_words (λ words. Script words) (λ words. tt) (command_words_of entry args)

-- what follows from what is read at a key, where that is short
and_then : {A B : Type 0} (P : A → Type 0) (Q : B → Type 0) (known : ConfigurationKey A) (rs : List ConfigurationRow) (f : A → Option B) → ((m : Meaning) → Holds P (known.kind m))
    → Holds P known.absent
    → ((x : A) → P x → Holds Q (f x)) → Holds Q (given (at_key known rs) f)
and_then P Q known rs f h k follows = then_to P Q f follows (at_key known rs) (at P known rs h k)

abbrev AreShortUnserved : Unserved → Type 0
AreShortUnserved unserved = IsShort unserved.log_file × AreTexts unserved.additional_dependencies

unserved_short : (rs : List ConfigurationRow) → Holds AreShortUnserved (unserved_of rs)
unfolding unserved_of
unserved_short rs =
    and_then IsShort AreShortUnserved key.log_file rs _ short_empty nothing_short (λ log_file p.
    and_then AreTexts AreShortUnserved key.additional_dependencies rs _ short_empties no_texts (λ additional_dependencies q. (p, q)))

abbrev AreShortNames : Names → Type 0
AreShortNames names = IsShort names.id × IsShort names.name × IsShort names.alias

names_short : (rs : List ConfigurationRow) → Holds AreShortNames (hook_names_of rs)
unfolding hook_names_of
names_short rs =
    and_then IsShort AreShortNames key.id rs _ short_text tt (λ id p.
    and_then IsShort AreShortNames key.name rs _ short_text tt (λ name q.
    and_then IsShort AreShortNames key.alias rs _ short_text nothing_short (λ alias r. (p, q, r))))

abbrev IsShortCommand : CommandKeys → Type 0
IsShortCommand command = HasShortSearch command.language × IsShort command.entry × AreTexts command.args

command_short : (rs : List ConfigurationRow) → Holds IsShortCommand (command_keys_of rs)
unfolding command_keys_of
command_short rs =
    then_any IsShortCommand _ (λ word.
    and_then IsShort IsShortCommand key.entry rs _ short_text tt (λ entry p.
    and_then AreTexts IsShortCommand key.args rs _ short_texts no_texts (λ args q.
    then_to HasShortSearch IsShortCommand _ (λ language r. (r, p, q)) (language_of word entry args) (language_short word entry args p))))
    (at_key key.language rs)

abbrev IsShortSelection : Selection → Type 0
IsShortSelection selection =
    IsShort selection.files × IsShort selection.exclude × AreTexts selection.types × AreTexts selection.types_or × AreTexts selection.exclude_types

selection_short : (rs : List ConfigurationRow) → Holds IsShortSelection (selection_of rs)
unfolding selection_of
selection_short rs =
    and_then IsShort IsShortSelection key.files rs _ short_pattern every_path_short (λ files p.
    and_then IsShort IsShortSelection key.exclude rs _ short_pattern no_path_short (λ exclude q.
    and_then AreTexts IsShortSelection key.types rs _ short_texts file_short (λ types r.
    and_then AreTexts IsShortSelection key.types_or rs _ short_texts no_texts (λ types_or s.
    and_then AreTexts IsShortSelection key.exclude_types rs _ short_texts no_texts (λ exclude_types t. (p, q, r, s, t))))))

abbrev AreShortReads : Reads → Type 0
AreShortReads reads = IsShort reads.x_reads

reads_short : (rs : List ConfigurationRow) → Holds AreShortReads (reads_of rs)
unfolding reads_of
reads_short rs =
    and_then IsShort AreShortReads key.x_reads rs _ short_pattern no_path_short (λ x_reads p.
    then_any AreShortReads _ (λ x_per_file.
    then_any AreShortReads _ (λ x_at_most. p) (at_key key.x_at_most rs)) (at_key key.x_per_file rs))

abbrev AreShortConditions : Conditions → Type 0
AreShortConditions conditions = IsShortSelection conditions.selection × AreShortReads conditions.reads

conditions_short : (default : Stages) (rs : List ConfigurationRow) → Holds AreShortConditions (conditions_of default rs)
unfolding conditions_of
conditions_short default rs =
    then_to IsShortSelection AreShortConditions _ (λ selection p.
    then_any AreShortConditions _ (λ switches.
    then_to AreShortReads AreShortConditions _ (λ reads q. (p, q)) (reads_of rs) (reads_short rs)) (switches_of default rs))
    (selection_of rs) (selection_short rs)

-- every text of a hook is one of a group
fields_short : (default : Stages) (rs : List ConfigurationRow) → Holds HookHasShortTexts (hook_of_fields default rs)
unfolding hook_of_fields hook_with hook_of_groups
fields_short default rs =
    then_to AreShortUnserved HookHasShortTexts _ (λ unserved p.
    then_to AreShortNames HookHasShortTexts _ (λ names q.
    then_to IsShortCommand HookHasShortTexts _ (λ command r.
    then_to AreShortConditions HookHasShortTexts _ (λ conditions s. search (p, q, r, s)) (conditions_of default rs) (conditions_short default rs)) (command_keys_of rs) (command_short rs))
    (hook_names_of rs) (names_short rs)) (unserved_of rs) (unserved_short rs)

abbrev AllShort : List Hook → Type 0
AllShort hooks = AllByRecursion HookHasShortTexts hooks

hook_short : (default : Stages) (m : Meaning) → Holds AllShort (hook_alone default m)
hook_short default m =
    map_to HookHasShortTexts AllShort _ (λ hook h. (h, tt)) (hook_of default m) (then_any HookHasShortTexts (hook_of_fields default) (fields_short default) (table_of m))

both : {A : Type 0} (P : A → Type 0) (xs ys : List A) → AllByRecursion P xs → AllByRecursion P ys → AllByRecursion P (xs ++ ys)
both P [] ys h k = k
both P (x ∷ xs) ys h k = (h.0, both P xs ys h.1 k)

joined_short : (f : Meaning → Option (List Hook)) → ((m : Meaning) → Holds AllShort (f m)) → (ms : List Meaning) → Holds AllShort (joined_lists f ms)
joined_short f h [] = tt
joined_short f h (m ∷ ms) =
    then_to AllShort AllShort _ (λ hooks p. map_to AllShort AllShort _ (λ more q. both HookHasShortTexts hooks more p q) (joined_lists f ms) (joined_short f h ms)) (f m) (h m)

named_hooks_short : (default : Stages) (rs : List ConfigurationRow) (name : List ℕ) → Holds AllShort (hooks_of_named default rs name)
named_hooks_short default rs name =
    either AllShort (bytes_eq name local_word) _ None
    (then_any AllShort (hooks_of_list default) (joined_short (hook_alone default) (hook_short default)) (at_key key.hooks rs)) tt

repository_short : (default : Stages) (m : Meaning) → Holds AllShort (hooks_of_repository default m)
repository_short default m =
    then_any AllShort (hooks_of_rows default) (λ rs. then_any AllShort (hooks_of_named default rs) (named_hooks_short default rs) (at_key key.repo rs)) (table_of m)

hooks_short : (default : Stages) (ms : List Meaning) → Holds (All HookHasShortTexts) (hooks_of_repositories default ms)
hooks_short default ms =
    then_to AllShort (All HookHasShortTexts) within_hook_limit (λ hooks h. if_true (All HookHasShortTexts) (leb (length hooks) most_hooks) hooks (λ _. All-from_recursion HookHasShortTexts hooks h))
    (joined_lists (hooks_of_repository default) ms) (joined_short (hooks_of_repository default) (repository_short default) ms)

-- ---- unknown keys

abbrev KeysWithin : ℕ → List (List ℕ) → Type 0
KeysWithin n keys = AllByRecursion (λ key. length key ≤ n) keys

abbrev RowWithin : ℕ → ConfigurationRow → Type 0
RowWithin n r = (length r.0 ≤ n) × HasTextsWithin n r.1

rows_within : (n : ℕ) (ms : Members) → RowsHaveTextsWithin n ms → AllByRecursion (RowWithin n) (rows_of_members ms)
rows_within n no_members h = tt
rows_within n (member key value ms) h = ((h.0, h.1), rows_within n ms h.2)

nodes_within : (n : ℕ) (ms : Meanings) → ItemsHaveTextsWithin n ms → AllByRecursion (HasTextsWithin n) (nodes ms)
nodes_within n no_meanings h = tt
nodes_within n (meaning m ms) h = (h.0, nodes_within n ms h.1)

rows_in_within : (n : ℕ) (m : Meaning) → HasTextsWithin n m → AllByRecursion (RowWithin n) (rows_in m)
rows_in_within n (text content quoted) h = tt
rows_in_within n (list items) h = tt
rows_in_within n (table content) h = rows_within n content h
rows_in_within n empty h = tt

items_in_within : (n : ℕ) (m : Meaning) → HasTextsWithin n m → AllByRecursion (HasTextsWithin n) (items_in m)
items_in_within n (text content quoted) h = tt
items_in_within n (list items) h = nodes_within n items h
items_in_within n (table content) h = tt
items_in_within n empty h = tt

flat_within : {A : Type 0} (n : ℕ) (P : A → Type 0) (f : A → List (List ℕ)) → ((x : A) → P x → KeysWithin n (f x)) → (xs : List A) → AllByRecursion P xs → KeysWithin n (flat_map f xs)
flat_within n P f h [] k = tt
flat_within n P f h (x ∷ xs) k = both (λ key. length key ≤ n) (f x) (flat_map f xs) (h x k.0) (flat_within n P f h xs k.1)

one_key : (n : ℕ) (b : Bool) (key : List ℕ) → length key ≤ n → KeysWithin n (cond b [] (key ∷ []))
one_key n true key h = tt
one_key n false key h = (h, tt)

key_within : (n : ℕ) (known : List (List ℕ × KeyKind)) (r : ConfigurationRow) → RowWithin n r → KeysWithin n (unknown_key known r)
key_within n known r h = one_key n (is_key known r.0) r.0 h.0

keys_by : (n : ℕ) (b : Bool) (xs ys : List (List ℕ)) → KeysWithin n xs → KeysWithin n ys → KeysWithin n (cond b xs ys)
keys_by n true xs ys h k = h
keys_by n false xs ys h k = k

of_hook : (n : ℕ) (m : Meaning) → HasTextsWithin n m → KeysWithin n (unknown_of_hook m)
of_hook n m h = flat_within n (RowWithin n) (unknown_key hook_keys) (key_within n hook_keys) (rows_in m) (rows_in_within n m h)

of_repository_row : (n : ℕ) (r : ConfigurationRow) → RowWithin n r → KeysWithin n (unknown_of_repository_row r)
of_repository_row n r h =
    keys_by n (bytes_eq r.0 key.hooks.word) (flat_map unknown_of_hook (items_in r.1)) (unknown_key repository_keys r)
    (flat_within n (HasTextsWithin n) unknown_of_hook (of_hook n) (items_in r.1) (items_in_within n r.1 h.1)) (key_within n repository_keys r h)

of_repository : (n : ℕ) (m : Meaning) → HasTextsWithin n m → KeysWithin n (unknown_of_repository m)
of_repository n m h = flat_within n (RowWithin n) unknown_of_repository_row (of_repository_row n) (rows_in m) (rows_in_within n m h)

of_top_row : (n : ℕ) (r : ConfigurationRow) → RowWithin n r → KeysWithin n (unknown_of_top_row r)
of_top_row n r h =
    keys_by n (bytes_eq r.0 key.repos.word) (flat_map unknown_of_repository (items_in r.1)) (unknown_key top_keys r)
    (flat_within n (HasTextsWithin n) unknown_of_repository (of_repository n) (items_in r.1) (items_in_within n r.1 h.1)) (key_within n top_keys r h)

keys_short : (n : ℕ) (keys : List (List ℕ)) → n ≤ most_text_bytes → KeysWithin n keys → AllByRecursion IsShort keys
keys_short n [] few h = tt
keys_short n (key ∷ keys) few h = (let first : length key ≤ n = h.0 in omega arith, keys_short n keys few h.1)

unknown_short : (n : ℕ) (rs : List ConfigurationRow) → n ≤ most_text_bytes → AllByRecursion (RowWithin n) rs → AreTexts (unknown_of_top rs)
unknown_short n rs few h =
    All-from_recursion IsShort (unknown_of_top rs) (keys_short n (unknown_of_top rs) few (flat_within n (RowWithin n) unknown_of_top_row (of_top_row n) rs h))

-- ---- the configuration

last_short : (o : Option (List Hook)) (fail_fast : Bool) (files exclude : List ℕ) (unknown : List (List ℕ)) → Holds (All HookHasShortTexts) o → IsShort files → IsShort exclude → AreTexts unknown
    → Holds HasShortTexts (given o (λ hooks. Some (record { hooks = hooks; fail_fast = fail_fast; files = files; exclude = exclude; unknown = unknown })))
last_short None fail_fast files exclude unknown h p q r = tt
last_short (Some hooks) fail_fast files exclude unknown h p q r = record { hooks = h; files = p; exclude = q; unknown = r }

values_short : (hooks_of : Stages → List Meaning → Option (List Hook)) → ((default : Stages) (ms : List Meaning) → Holds (All HookHasShortTexts) (hooks_of default ms)) → (unknown : List (List ℕ))
    → AreTexts unknown
    → (o0 : Option Stages) (o1 o2 : Option (List ℕ)) (o3 : Option Bool) (o4 : Option (List Meaning)) → Holds IsShort o1 → Holds IsShort o2
    → Holds HasShortTexts
    (given o0 (λ default. given o1 (λ files. given o2 (λ exclude. given o3 (λ fail_fast. given o4 (λ repositories. given (hooks_of default repositories) (λ hooks.
    Some (record { hooks = hooks; fail_fast = fail_fast; files = files; exclude = exclude; unknown = unknown }))))))))
values_short hooks_of h unknown r None o1 o2 o3 o4 p q = tt
values_short hooks_of h unknown r (Some default) None o2 o3 o4 p q = tt
values_short hooks_of h unknown r (Some default) (Some files) None o3 o4 p q = tt
values_short hooks_of h unknown r (Some default) (Some files) (Some exclude) None o4 p q = tt
values_short hooks_of h unknown r (Some default) (Some files) (Some exclude) (Some fail_fast) None p q = tt
values_short hooks_of h unknown r (Some default) (Some files) (Some exclude) (Some fail_fast) (Some repositories) p q =
    last_short (hooks_of default repositories) fail_fast files exclude unknown (h default repositories) p q r

rows_short : (n : ℕ) (rs : List ConfigurationRow) → n ≤ most_text_bytes → AllByRecursion (RowWithin n) rs → Holds HasShortTexts (configuration_of_rows rs)
unfolding configuration_of_rows
rows_short n rs few h =
    values_short hooks_of_repositories hooks_short (unknown_of_top rs) (unknown_short n rs few h)
    (at_key key.default_stages rs) (at_key key.files rs) (at_key key.exclude rs) (at_key key.fail_fast rs) (at_key key.repos rs)
    (at IsShort key.files rs short_pattern every_path_short) (at IsShort key.exclude rs short_pattern no_path_short)

meaning_short : (n : ℕ) (m : Meaning) → n ≤ most_text_bytes → HasTextsWithin n m → Holds HasShortTexts (configuration_of_meaning m)
unfolding configuration_of_meaning
meaning_short n (text content quoted) few h = tt
meaning_short n (list items) few h = tt
meaning_short n (table content) few h = rows_short n (rows_of_members content) few (rows_within n content h)
meaning_short n empty few h = tt

of_meant : (bytes : List ℕ) (o : Option Meaning) → meaning_of bytes ≡ o → Holds HasShortTexts (option_and_then configuration_of_meaning o)
of_meant bytes None e = tt
of_meant bytes (Some m) e = meaning_short (length bytes) m (few_bytes bytes m e) (texts_within bytes m e)

all_short : (bytes : List ℕ) → Holds HasShortTexts (configuration_of bytes)
unfolding configuration_of
all_short bytes = of_meant bytes (meaning_of bytes) refl

pub config_short : (bytes : List ℕ) (config : Config) → configuration_of bytes ≡ Some config → HasShortTexts config
config_short bytes config e = subst (Holds HasShortTexts) e (all_short bytes)

pub node_short : (bytes : List ℕ) (m : Meaning) (config : Config) → meaning_of bytes ≡ Some m → configuration_of_meaning m ≡ Some config → HasShortTexts config
node_short bytes m config is e = subst (Holds HasShortTexts) e (meaning_short (length bytes) m (few_bytes bytes m is) (texts_within bytes m is))

pub result_short : (result : Result Config ConfigFault) (bytes : List ℕ) (m : Meaning) → meaning_of bytes ≡ Some m → GivesConfiguration (λ config. config) result (configuration_of_meaning m)
    → IfOk result HasShortTexts
result_short (Ok config) bytes m is e = node_short bytes m config is e
result_short (Err fault) bytes m is e = tt
