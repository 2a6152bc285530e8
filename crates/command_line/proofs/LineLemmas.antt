-- What `clap` makes of the program's command.
use Rattle.std.proofs.Common.{◌≡◌, ◌&&◌, ◌⊎◌, inl, inr, ◌∷◌, [], List, Option, Some, None, Result, Ok, Err, OnOk, option_map, true, refl, sym, ◌∙◌, ap, subst, codes, Box}
use Rattle.std.specs.Box.{box_value}
use Rattle.clap.specs.Walk.{Text, nothing_held, stop_after}
use Rattle.clap.specs.Simple.{App, app_of, built, entered, is_simple, names_of, subcommand_of, subcommand_rows, subcommand_rows_of}
use Rattle.clap.specs.Faults.{fault_of, is_simple_and_free}
use Rattle.clap.specs.Kinds.{HasKind, IsAmong, Kinds}
use Rattle.clap.specs.Takes.{built_takes, takes}
use Rattle.clap.specs.Values.{kind_of}
use Rattle.clap.specs.Matches.{subcommand_name_of}
use Rattle.clap.specs.declared.builder.command.Command.{Command}
use Rattle.clap.specs.declared.error.Error.{Error}
use Rattle.clap.specs.declared.error.kind.ErrorKind.{ErrorKind}
use Rattle.clap.specs.declared.error.kind.ErrorKind.TheVariants.{DisplayHelp, DisplayVersion, OutOfMemory}
use Rattle.clap.specs.declared.parser.matches.ArgMatches.{ArgMatches}
use Rattle.clap.specs.declared.parser.matches.ArgMatches.TheViews.{out-ArgMatches, out-SubCommand}
use Rattle.clap.specs.declared.parser.matches.SubCommand.{SubCommand}
use Rattle.clap.proofs.OnLiterals.{clap_on_literals}
use Rattle.command_line.specs.CommandLine.{AsksForHelp, AsksForScript, bench_app, faults_in}

pub is_exact : is_simple_and_free bench_app ≡ true
unfolding clap_on_literals
is_exact = refl

pub is_simple_app : is_simple bench_app ≡ true
unfolding clap_on_literals
is_simple_app = refl

takes_word : (is_simple bench_app && built_takes (built bench_app) nothing_held (codes "script" ∷ [])) ≡ true
unfolding clap_on_literals
takes_word = refl

-- `clap` takes the one word
pub takes_script : (words : List Text) → AsksForScript words → takes bench_app words ≡ true
takes_script words e =
    let P : List Text → Type 0 = λ ws. (is_simple bench_app && built_takes (built bench_app) nothing_held ws) ≡ true in
    subst P (sym e) takes_word

name_of_word : option_map (λ p. p.0) (entered (built bench_app) (stop_after (built bench_app).top.rules (names_of (built bench_app)) (codes "script" ∷ []))) ≡ Some (codes "script")
unfolding clap_on_literals
name_of_word = refl

-- and names it as the subcommand
pub names_script : (words : List Text) → AsksForScript words → option_map (λ p. p.0) (subcommand_of bench_app words) ≡ Some (codes "script")
names_script words e =
    let P : List Text → Type 0 = λ ws. option_map (λ p. p.0) (entered (built bench_app) (stop_after (built bench_app).top.rules (names_of (built bench_app)) ws)) ≡ Some (codes "script") in
    subst P (sym e) name_of_word

name-rows : {Z : Type 0} (o : Option (Box SubCommand Z)) → option_map (λ p. p.0) (subcommand_rows o) ≡ option_map (λ b. (out-SubCommand (box_value b)).name.now) o
name-rows None = refl
name-rows (Some b) = refl

pub name-rows_of : (m : ArgMatches) → option_map (λ p. p.0) (subcommand_rows_of m) ≡ subcommand_name_of m
name-rows_of m = name-rows (out-ArgMatches m).subcommand

-- a parse of the one word that gives matches names the job
pub names_job : (command : Command) (words : List Text) (m : ArgMatches) → app_of command ≡ bench_app
    → (is_simple (app_of command) ≡ true → subcommand_rows_of m ≡ subcommand_of (app_of command) words)
    → AsksForScript words → subcommand_name_of m ≡ Some (codes "script")
names_job command words m same rows asks =
    sym (name-rows_of m) ∙ ap (option_map (λ p. p.0)) (rows (ap is_simple same ∙ is_simple_app) ∙ ap (λ a. subcommand_of a words) same) ∙ names_script words asks

-- and one that gives an error ran out of memory
pub only_memory : (command : Command) (words : List Text) (e : Error) → app_of command ≡ bench_app
    → (takes (app_of command) words ≡ true → kind_of e ≡ OutOfMemory)
    → AsksForScript words → kind_of e ≡ OutOfMemory
only_memory command words e same passes asks =
    passes (ap (λ a. takes a words) same ∙ takes_script words asks)

-- a parse that gives matches found no fault
pub no_fault : (command : Command) (words : List Text) → app_of command ≡ bench_app
    → (is_simple_and_free (app_of command) ≡ true → fault_of (app_of command) words ≡ [])
    → faults_in words ≡ []
no_fault command words same exact =
    ap (λ a. fault_of a words) (sym same) ∙ exact (ap is_simple_and_free same ∙ is_exact)

pub on_ok : {T E P : Type 0} (r : Result T E) → P → OnOk r P
on_ok (Ok v) h = h
on_ok (Err e) h = tt

help_no_memory : DisplayHelp ≡ OutOfMemory → ⊥
help_no_memory e = cc

version_no_memory : DisplayVersion ≡ OutOfMemory → ⊥
version_no_memory e = cc

-- of a kind of error that asks for a page, the words ask for one
help_found : (k : ErrorKind) (ks : Kinds) → (k ≡ DisplayHelp) ⊎ (k ≡ DisplayVersion) → (k ≡ OutOfMemory) ⊎ IsAmong k ks
    → IsAmong DisplayHelp ks ⊎ IsAmong DisplayVersion ks
help_found k ks (inl h) (inl e) = absurd (help_no_memory (sym h ∙ e))
help_found k ks (inr h) (inl e) = absurd (version_no_memory (sym h ∙ e))
help_found k ks (inl h) (inr a) = inl (subst (λ k. IsAmong k ks) h a)
help_found k ks (inr h) (inr a) = inr (subst (λ k. IsAmong k ks) h a)

-- an error that holds a page is one that the words ask for
pub only_help : (command : Command) (words : List Text) (e : Error) → app_of command ≡ bench_app
    → (is_simple_and_free (app_of command) ≡ true → HasKind (fault_of (app_of command) words) e)
    → (kind_of e ≡ DisplayHelp) ⊎ (kind_of e ≡ DisplayVersion) → AsksForHelp words
only_help command words e same exact help =
    let P : App → Type 0 = λ a. HasKind (fault_of a words) e in
    help_found (kind_of e) (faults_in words) help (subst P same (exact (ap is_simple_and_free same ∙ is_exact)))
