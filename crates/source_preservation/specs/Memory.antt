pub mod GoingWorlds
