-- What the words of the command line ask for.
use Rattle.std.specs.Prelude.{ℕ, cond, ◌||◌, List, [], ◌∷◌, ◌++◌, Some, None, Ok, Err, Option, Result, option_map, codes, bytes_eq}
use denote.Ref.{Bor}
use Rattle.text.specs.Results.{and_then}
use Rattle.desk.specs.declared.command.Command.{Command}
use Rattle.desk.specs.declared.command.Command.TheVariants.{Help, Check, Print, Search}
use Rattle.desk.specs.declared.command.Misuse.{Misuse}
use Rattle.desk.specs.declared.command.Misuse.TheVariants.{UnknownWord, NoFile, Twice}

-- a command with its files by their bytes, and a misuse with its word by its bytes
abbrev pub in_bytes : Command (Bor (List ℕ)) → Command (List ℕ)
in_bytes Help = Help
in_bytes (Check file) = Check file.now
in_bytes (Print file) = Print file.now
in_bytes (Search file dates exceptions) = Search file.now (option_map (λ d. d.now) dates) (option_map (λ e. e.now) exceptions)

abbrev pub misuse_in_bytes : Misuse (Bor (List ℕ)) → Misuse (List ℕ)
misuse_in_bytes (UnknownWord word) = UnknownWord word.now
misuse_in_bytes (NoFile word) = NoFile word.now
misuse_in_bytes (Twice word) = Twice word.now

abbrev pub told : Result (Command (Bor (List ℕ))) (Misuse (Bor (List ℕ))) → Result (Command (List ℕ)) (Misuse (List ℕ))
told (Ok command) = Ok (in_bytes command)
told (Err misuse) = Err (misuse_in_bytes misuse)

abbrev pub Asked : Type 0
Asked = Result (Command (List ℕ)) (Misuse (List ℕ))

-- nothing stands behind the word
abbrev pub alone : Command (List ℕ) → List (List ℕ) → Asked
alone command [] = Ok command
alone command (other ∷ more) = Err (UnknownWord other)

-- just one file stands behind the word
abbrev pub of_file : (List ℕ → Command (List ℕ)) → List ℕ → List (List ℕ) → Asked
of_file command word [] = Err (NoFile word)
of_file command word (file ∷ behind) = alone (command file) behind

-- the file of an option that was not given before
abbrev pub given : List ℕ → Option (List ℕ) → List ℕ → Result (List ℕ) (Misuse (List ℕ))
given word None file = Ok file
given word (Some before) file = Err (Twice word)

-- the options of a search, in any order, each with its file behind it
abbrev pub options : List ℕ → Option (List ℕ) → Option (List ℕ) → List (List ℕ) → Asked
options file dates exceptions [] = Ok (Search file dates exceptions)
options file dates exceptions (word ∷ []) = cond (bytes_eq word (codes "--dates") || bytes_eq word (codes "--exceptions")) (Err (NoFile word)) (Err (UnknownWord word))
options file dates exceptions (word ∷ value ∷ more) =
    cond (bytes_eq word (codes "--dates")) (and_then (given word dates value) (λ found. options file (Some found) exceptions more))
    (cond (bytes_eq word (codes "--exceptions")) (and_then (given word exceptions value) (λ found. options file dates (Some found) more)) (Err (UnknownWord word)))

abbrev pub searching : List ℕ → List (List ℕ) → Asked
searching word [] = Err (NoFile word)
searching word (file ∷ behind) = options file None None behind

-- the words of the command line; none at all ask for help
abbrev pub commanded : List (List ℕ) → Asked
commanded [] = Ok Help
commanded (word ∷ behind) =
    cond (bytes_eq word (codes "--help") || bytes_eq word (codes "help")) (alone Help behind)
    (cond (bytes_eq word (codes "check")) (of_file Check word behind)
    (cond (bytes_eq word (codes "print")) (of_file Print word behind)
    (cond (bytes_eq word (codes "search")) (searching word behind) (Err (UnknownWord word)))))

-- why the words cannot be followed, by the bytes of what is said
abbrev pub misuse_text : Misuse (List ℕ) → List ℕ
misuse_text (UnknownWord word) = codes "unknown word `" ++ (word ++ codes "`")
misuse_text (NoFile word) = codes "`" ++ (word ++ codes "` is followed by no file")
misuse_text (Twice word) = codes "`" ++ (word ++ codes "` stands twice")
