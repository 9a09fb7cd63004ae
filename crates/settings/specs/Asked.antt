-- What a caller is answered who asks for typed settings: the file's own refusals, 18, or the settings.
use Rattle.std.specs.Prelude.{ℕ, List, None, Ok, Err}
use Rattle.text.specs.declared.Dialect.TheVariants.{Iwd, ConnMan}
use Rattle.rules.specs.Sections.{Entry, Section, entry_of}
use Rattle.rules.specs.Reading.{sections_of, reading}
use Rattle.rules.specs.Asking.{iwd_entry, service_at, asked, asked_of}
use Rattle.settings.specs.Settings.{iwd_settings, iwd_servers, service_settings, service_servers}
use Rattle.settings.specs.declared.IwdAnswer.{IwdAnswer}
use Rattle.settings.specs.declared.ServiceAnswer.{ServiceAnswer}
use Rattle.rules.specs.Answering.{Answer, refused_at}

-- ---- an iwd file

-- "A refusal gives .. zeros for all else": every setting is absent
abbrev pub iwd_answer_of : Answer → List Section → IwdAnswer
iwd_answer_of (Ok u) gs = record { answer = Ok tt; settings = iwd_settings (iwd_entry gs) }
iwd_answer_of (Err f) gs = record { answer = refused_at f.refusal f.line; settings = iwd_settings (λ n k. None) }

abbrev pub iwd_answered : List ℕ → List ℕ → IwdAnswer
iwd_answered name file = iwd_answer_of (asked (reading Iwd name file)) (sections_of Iwd file)

abbrev pub iwd_servers_of : Answer → List Section → List (List ℕ) → List (List ℕ)
iwd_servers_of (Ok u) gs old = iwd_servers (iwd_entry gs)
iwd_servers_of (Err f) gs old = old

abbrev pub iwd_servers_after : List ℕ → List ℕ → List (List ℕ) → List (List ℕ)
iwd_servers_after name file old = iwd_servers_of (asked (reading Iwd name file)) (sections_of Iwd file) old

-- ---- service w of a ConnMan file, whose settings are es

abbrev pub service_answer_of : Answer → List Entry → ServiceAnswer
service_answer_of (Ok u) es = record { answer = Ok tt; settings = service_settings (λ k. entry_of k es) }
service_answer_of (Err f) es = record { answer = refused_at f.refusal f.line; settings = service_settings (λ k. None) }

abbrev pub service_answered : List ℕ → List ℕ → ℕ → ServiceAnswer
service_answered name file w =
    service_answer_of (asked_of w (reading ConnMan name file)) (service_at w (sections_of ConnMan file))

abbrev pub service_servers_of : Answer → List Entry → List (List ℕ) → List (List ℕ)
service_servers_of (Ok u) es old = service_servers (λ k. entry_of k es)
service_servers_of (Err f) es old = old

abbrev pub service_servers_after : List ℕ → List ℕ → ℕ → List (List ℕ) → List (List ℕ)
service_servers_after name file w old =
    service_servers_of (asked_of w (reading ConnMan name file)) (service_at w (sections_of ConnMan file)) old
