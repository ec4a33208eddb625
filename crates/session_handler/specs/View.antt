-- What a configuration in memory stands for.
use Rattle.directory_api.specs.Clients.{session_client}
use Rattle.session_handler.specs.Session.{ConfigValue}
use Rattle.session_handler.specs.declared.config.Config.{Config}

-- a configuration as clauses see it
abbrev pub config_view : Config → ConfigValue
config_view c = record {
  schema = c.schema.now;
  manager = c.manager.now;
  password = c.password.now;
  client = session_client c.replica c.restarts c.session;
}
