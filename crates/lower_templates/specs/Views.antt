pub mod ProgramViews
