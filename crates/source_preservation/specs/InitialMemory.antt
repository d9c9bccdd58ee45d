pub mod StartedWorlds
