-- What each exported function answers, by what it is called with. A call that writes leaves an answer and two buffers.
use Rattle.std.specs.Prelude.{ℕ, List}
use Rattle.text.specs.Words.{word}
use Rattle.text.specs.declared.Dialect.TheVariants.{Iwd, ConnMan}
use Rattle.rules.specs.Reading.{reading}
use Rattle.settings.specs.Asked.{iwd_answered, iwd_servers_after, service_answered, service_servers_after}
use Rattle.lookups.specs.Lookups.{iwd_lookup, global_lookup, service_lookup, lookup_place}
use Rattle.joins.specs.Joins as Joins
use Rattle.joins.specs.Joins.{iwd_record_servers, service_record_servers}
use Rattle.mover.specs.Moves.{moving}
use Rattle.record_layout.specs.Records.{lent_servers}
use Rattle.record_layout.specs.declared.CRecord.{CRecord}
use Rattle.boundary.specs.Answers.{reading_at, text_at, Left, left_of, record_answer_at, writing_in}
use Rattle.boundary.specs.Settings.{iwd_settings_at, service_settings_at}
use Rattle.boundary.specs.declared.CReading.{CReading}
use Rattle.boundary.specs.declared.CText.{CText}
use Rattle.boundary.specs.declared.CRecordAnswer.{CRecordAnswer}
use Rattle.boundary.specs.declared.CIwdSettings.{CIwdSettings}
use Rattle.boundary.specs.declared.CServiceSettings.{CServiceSettings}

-- ---- of a file under its name

abbrev pub check_iwd : List ℕ → List ℕ → CReading
check_iwd name file = reading_at (reading Iwd name file)

abbrev pub check_connman : List ℕ → List ℕ → CReading
check_connman name file = reading_at (reading ConnMan name file)

abbrev pub iwd_settings_of : List ℕ → List ℕ → CIwdSettings
iwd_settings_of name file = iwd_settings_at (iwd_answered name file) (iwd_servers_after name file lent_servers)

abbrev pub iwd_passphrase : List ℕ → List ℕ → CText
iwd_passphrase name file = text_at (lookup_place (iwd_lookup (word "Security") (word "Passphrase") name file))

abbrev pub iwd_domain_name : List ℕ → List ℕ → CText
iwd_domain_name name file = text_at (lookup_place (iwd_lookup (word "IPv4") (word "DomainName") name file))

abbrev pub global_name : List ℕ → List ℕ → CText
global_name name file = text_at (lookup_place (global_lookup (word "Name") name file))

abbrev pub global_description : List ℕ → List ℕ → CText
global_description name file = text_at (lookup_place (global_lookup (word "Description") name file))

abbrev pub iwd_record_of : List ℕ → List ℕ → CRecordAnswer
iwd_record_of name file = record_answer_at (Joins.iwd_record name file) (iwd_record_servers name file lent_servers)

-- ---- of service w of a ConnMan file under its name

abbrev pub service_settings_of : List ℕ → List ℕ → ℕ → CServiceSettings
service_settings_of name file w =
    service_settings_at (service_answered name file w) (service_servers_after name file w lent_servers)

abbrev pub service_name : List ℕ → List ℕ → ℕ → CText
service_name name file w = text_at (lookup_place (service_lookup w (word "Name") name file))

abbrev pub service_passphrase : List ℕ → List ℕ → ℕ → CText
service_passphrase name file w = text_at (lookup_place (service_lookup w (word "Passphrase") name file))

abbrev pub service_domain : List ℕ → List ℕ → ℕ → CText
service_domain name file w = text_at (lookup_place (service_lookup w (word "Domain") name file))

abbrev pub service_record_of : List ℕ → List ℕ → ℕ → CRecordAnswer
service_record_of name file w =
    record_answer_at (Joins.service_record name file w) (service_record_servers name file w lent_servers)

-- ---- into a buffer that held n for the name, and one that held f for the file

abbrev pub write_iwd : CRecord → List ℕ → List ℕ → Left
write_iwd c n f = left_of (writing_in c n f) n f

abbrev pub move_service : List ℕ → List ℕ → ℕ → List ℕ → List ℕ → Left
move_service name file w n f = left_of (moving name file w n f) n f
